-- rounding up by the quotient rounded up
pub mod Ceil
