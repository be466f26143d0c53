-- tests 9 to 12 over lent tables
pub mod Lent
-- the position that fires next
pub mod Positions
