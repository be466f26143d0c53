-- definitions: marked graphs; processes; the graph of an edge table
pub mod Graph
pub mod Processes
pub mod Tables
-- how often a number stands in a list
pub mod Counts
-- firing orders and routes one after the other
pub mod Append
-- where the tokens are after a legal order
pub mod Tokens
-- routes that go round a cycle, and shorter ones without
pub mod Looped
pub mod Shorten
-- how the emptiest route is found
pub mod Fewest
-- what has to fire for a node to fire
pub mod Live
pub mod Towards
-- how far a node may get ahead of another
pub mod Lead
-- the process and the seat of each node
pub mod Seating
-- only the next node of a process may fire
pub mod ProcessEdges
-- rounds and positions of processes
pub mod Rounds
-- every cycle goes round a simple one
pub mod Simple
