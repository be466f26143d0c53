-- the numbers 20 to 24
pub mod Numbers
-- what a call names that is not turned down
pub mod Known
pub mod Reasons
pub mod Apart
