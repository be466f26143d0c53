pub mod Held
pub mod Counted
