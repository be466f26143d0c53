pub mod Facts
pub mod Rounding
pub mod Exact
pub mod Look
pub mod Example
