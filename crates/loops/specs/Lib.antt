-- what loops compute
pub mod Values
-- what is proved of it
pub mod Choice
pub mod First
pub mod Any
pub mod Sum
pub mod Fold
pub mod Table
pub mod Row
pub mod Chains
