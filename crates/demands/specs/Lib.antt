-- the statements
pub mod Demands
-- what the functions answer, call after call
pub mod Steps
-- proofs of theirs
pub mod Functions
pub mod Code
-- the examples
pub mod Starred
