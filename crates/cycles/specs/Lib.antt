-- loop sums, and tests over them
pub mod Lent
-- the loop that enters the sums
pub mod Sums
-- numbers that fit
pub mod Bounds
-- no edge closes a cycle without tokens
pub mod Free
