-- what a reader must believe: what the theorems say
pub mod Bounds
pub mod DriveCalls
pub mod Meaning
-- counters, and a machine of counters and marks beside a marked graph
pub mod RoundSums
pub mod Counters
pub mod Beside
-- the machine of an accepted plan beside the plan's marked graph
pub mod PlanSeats
pub mod StandsFor
pub mod EdgeTest
pub mod FollowsCalls
pub mod Follows
-- what a look and a fire call answer
pub mod LookExact
pub mod FireExact
-- a state stands for the firings of its run
pub mod Stands
-- some process can be driven
pub mod RunLaws
pub mod InBounds
pub mod Driven
-- a chain of results is a run
pub mod Chain
-- the theorems
pub mod Theorems
