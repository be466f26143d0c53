-- what a look answers
pub mod LookExact
-- one process called alone fires; every legal order is reached
pub mod Listed
pub mod InBounds
pub mod Drive
pub mod Driven
pub mod Reaches
-- the theorems
pub mod Theorems
