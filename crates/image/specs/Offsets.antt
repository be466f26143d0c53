-- Where the tables of an image begin and where it ends, from its counts (01, "The plan image"). Definitions only.
-- Assumes nothing.
use Rattle.std.specs.Prelude.{ℕ, ◌+◌, ◌*◌}

-- "The tables follow the header in that order without gaps": the firing order, after 36 bytes and "two bytes a process (its length)"
unfoldable pub order_start : (processes : ℕ) → ℕ
order_start processes = 36 + 2 * processes

-- the node table, after "two bytes a node (node numbers, process after process, each in firing order)"
unfoldable pub node_start : (processes nodes : ℕ) → ℕ
node_start processes nodes = order_start processes + 2 * nodes

-- the edge table, after "four bytes a node in node order (counter, increment)"
unfoldable pub edge_start : (processes nodes : ℕ) → ℕ
edge_start processes nodes = node_start processes nodes + 4 * nodes

-- "total length": the image ends after "six bytes an edge (source, destination, tokens)"
unfoldable pub total : (processes nodes edges : ℕ) → ℕ
total processes nodes edges = edge_start processes nodes + 6 * edges
