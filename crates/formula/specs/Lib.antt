-- b(x), and the counters after a firing
pub mod Lists
-- indices in range
pub mod Placed
