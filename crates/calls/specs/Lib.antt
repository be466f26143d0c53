pub mod Answers
pub mod Apart
