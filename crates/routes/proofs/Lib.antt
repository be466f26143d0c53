-- plan P's row, computed
pub mod Example
-- what relaxing does to a row
pub mod Relaxing
pub mod Settling
-- the row's entries are the tokens of the emptiest routes
pub mod Emptiest
