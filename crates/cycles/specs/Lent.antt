-- Loop sums and tests 13, 14 and 16 over the tables that a function is lent: among them whether each edge synchronises, and its loop sum.
-- Definitions only.
-- Assumes nothing.
use Rattle.std.specs.Prelude.{ℕ, suc, ◌+◌, ◌*◌, ◌<◌, ◌≤◌, max, List, Bool, eqb, leb}
use Rattle.loops.specs.Choice.{at, if, both}
use Rattle.loops.specs.Any.{any}
use Rattle.loops.specs.Fold.{fold}
use Rattle.routes.specs.Rows.{no_route, emptiest_row}

-- the loop sum of edge e
unfoldable pub loop_sum_in : List ℕ → List ℕ → List ℕ → ℕ → ℕ → ℕ
loop_sum_in source destination tokens edges e = at tokens e + at (emptiest_row source destination tokens edges (at destination e)) (at source e)

-- entry e of a list of loop sums once those of the edges into node v are entered from v's row
unfoldable pub entered : List ℕ → List ℕ → List ℕ → List ℕ → ℕ → List ℕ → ℕ → ℕ
entered source destination tokens row v sums e = if (eqb (at destination e) v) (at tokens e + at row (at source e)) (at sums e)

-- each of the edges ends in a node
abbrev pub Known : List ℕ → ℕ → ℕ → Type 0
Known destination nodes edges = (e : ℕ) → e < edges → at destination e < nodes

-- no loop sum is above 1,000 tokens and `no_route`
abbrev pub Small : List ℕ → Type 0
Small sums = (e : ℕ) → at sums e ≤ 101000

-- no entry is above the 65,535 tokens that a plan's table can hold for an edge and `no_route`
abbrev pub Bounded : List ℕ → Type 0
Bounded sums = (e : ℕ) → at sums e ≤ 165535

-- number 13
unfoldable pub free_in : List ℕ → ℕ → Bool
free_in sums e = eqb (at sums e) 0

unfoldable pub closes_free_in : List ℕ → List ℕ → ℕ → ℕ → Bool
closes_free_in destination sums v e = both (eqb (at destination e) v) (eqb (at sums e) 0)

unfoldable pub on_free_cycle_in : List ℕ → List ℕ → ℕ → ℕ → Bool
on_free_cycle_in destination sums edges v = any (closes_free_in destination sums v) edges

module _ (crossing sums : List ℕ) where
  -- number 14
  unfoldable pub no_way_back_in : ℕ → Bool
  no_way_back_in e = both (leb no_route (at sums e)) (eqb (at crossing e) 1)

  -- number 16, where each edge has its own sum
  unfoldable pub not_above_in : ℕ → (ℕ → ℕ) → ℕ → Bool
  not_above_in modulus own e = both (eqb (at crossing e) 1) (leb modulus (own e * at sums e))

  -- what edge e asks of the modulus, in sums of Q
  unfoldable pub asks_in : ℕ → ℕ
  asks_in e = if (eqb (at crossing e) 1) (suc (at sums e)) 1

  -- the least modulus in sums of Q
  unfoldable pub most_asked : ℕ → ℕ
  most_asked edges = fold (λ e m. max m (asks_in e)) 1 edges
