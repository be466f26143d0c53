-- the statements
pub mod DemandsC
-- their proofs
pub mod NumbersApart
pub mod CheckNumbers
pub mod ChainOfNumbers
