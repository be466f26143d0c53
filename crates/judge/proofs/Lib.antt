pub mod Example
pub mod RouteFaults
pub mod Least
pub mod Exactly
pub mod Decided
-- what is proved of the judge
pub mod Theorems
