-- a test as a number
pub mod One
-- a row copied into a longer list
pub mod Copied
