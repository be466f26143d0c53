-- Which edges have their ends in different processes, as a row; and what is asked of the edges' ends. Definitions only.
-- Assumes nothing.
use Rattle.std.specs.Prelude.{List, ℕ, ◌≤◌, ◌<◌}
use Rattle.loops.specs.Choice.{at, one_if}
use Rattle.loops.specs.Table.{padded}
use Rattle.plan.specs.declared.Plan.{Plan}
use Rattle.plan.specs.Tests.{different, home_table}

-- 1 where the ends of edge e are in different processes, else 0
unfoldable pub crosses : List ℕ → List ℕ → List ℕ → ℕ → ℕ
crosses homes source destination e = one_if (different homes (at source e) (at destination e))

-- 1 for each synchronising edge of a plan, 0 for the others and past the count
abbrev pub crossing_table : Plan → List ℕ
crossing_table pl = padded (crosses (home_table pl) pl.source pl.destination) 512 pl.edges

-- edges with known ends
pub record EndsOk (source destination : List ℕ) (edges : ℕ) : Type 0 where
  pub edges_most : edges ≤ 512
  pub source_lt : (e : ℕ) → e < edges → at source e < 64
  pub destination_lt : (e : ℕ) → e < edges → at destination e < 64
