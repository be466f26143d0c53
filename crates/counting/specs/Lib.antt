pub mod Modular
pub mod Process
pub mod Remainders
pub mod Facts
pub mod Exact
pub mod Example
