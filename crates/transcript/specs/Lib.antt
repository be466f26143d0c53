pub mod Text
pub mod Running
pub mod Printing
pub mod Room
pub mod Apart
