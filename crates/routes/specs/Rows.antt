-- The row of emptiest routes from one node as a computation: relaxed edge by edge, sweep by sweep, until nothing changes.
-- Definitions only. Assumes nothing.
use Rattle.std.specs.Prelude.{ℕ, zero, suc, ◌+◌, min, List, eqb, set, replicate}
use Rattle.loops.specs.Choice.{at, if}
use Rattle.loops.specs.Sum.{sum}
use Rattle.loops.specs.Fold.{fold}

-- stands for no route: 64 edges of 1,000 tokens hold fewer
abbrev pub no_route : ℕ
no_route = 100000

-- more sweeps than can lower the sum of a row: 64 entries of `no_route` sum to less
abbrev pub enough_sweeps : ℕ
enough_sweeps = 6400001

-- the sum of a row's entries
unfoldable pub total : List ℕ → ℕ
total row = sum (at row) 64

-- the row at the start: 0 at `from`, no route elsewhere
unfoldable pub start : ℕ → List ℕ
start from = set (replicate 64 no_route) from 0

module _ (source destination tokens : List ℕ) where
  -- what edge e makes of its destination's entry: no more than its source's entry and its tokens
  abbrev pub lowered : ℕ → List ℕ → ℕ
  lowered e row = min (at row (at destination e)) (at row (at source e) + at tokens e)

  -- the row after edge e
  unfoldable pub relaxed : ℕ → List ℕ → List ℕ
  relaxed e row = set row (at destination e) (lowered e row)

  -- the row after every edge in turn
  unfoldable pub sweep : ℕ → List ℕ → List ℕ
  sweep edges row = fold relaxed row edges

  -- the row after at most so many sweeps, ending with the first that does not lower the sum
  unfoldable pub settled : ℕ → ℕ → List ℕ → List ℕ
  settled edges zero row = row
  settled edges (suc sweeps) row =
      let next = sweep edges row in
      let rest = settled edges sweeps next in
      if (eqb (total next) (total row)) next rest

  -- the tokens of the emptiest route from `from` to each node
  unfoldable pub emptiest_row : ℕ → ℕ → List ℕ
  emptiest_row edges from = settled edges enough_sweeps (start from)
