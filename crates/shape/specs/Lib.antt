-- the shape test, test by test
pub mod Steps
