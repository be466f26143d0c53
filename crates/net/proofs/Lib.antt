-- the emptiest route
pub mod Shorten
pub mod Emptiest
-- any node can be fired; how
pub mod Live
pub mod Towards
-- how far a node may get ahead of another
pub mod Lead
-- only synchronising edges can hold up the next node of a process
pub mod ProcessEdges
-- every cycle holds a token where every simple one does
pub mod Simple
