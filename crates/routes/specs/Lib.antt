-- the row as a computation
pub mod Rows
-- what relaxing does to a row
pub mod Relaxing
pub mod Settling
-- each promise leaves room for one answer
pub mod Unique
