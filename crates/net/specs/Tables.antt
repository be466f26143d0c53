-- The marked graph of an edge table. Definitions only.
-- Assumes nothing.
use Rattle.std.specs.Prelude.{List, ℕ}
use Rattle.loops.specs.Choice.{at}
use Rattle.net.specs.Graph.{Graph}

-- 01: "an edge (source, destination, tokens)": edge e stands at place e of the three tables
unfoldable pub graph_of_tables : ℕ → ℕ → List ℕ → List ℕ → List ℕ → Graph
graph_of_tables nodes edges source destination tokens =
    record { nodes = nodes; edges = edges; source = at source; destination = at destination; tokens = at tokens }
