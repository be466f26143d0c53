-- what tests 5 to 8 answer
pub mod Answer
-- what their code's proofs, and their callers, use
pub mod Laws
-- the nodes seen so far
pub mod Seen
pub mod Apart
