-- which edges synchronise, as a row
pub mod Crossing
-- that the row says so of a plan
pub mod Laws
-- the processes of the nodes, entered in firing order
pub mod Housed
