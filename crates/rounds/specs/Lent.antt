-- Tests 9 to 12 over the tables that a function is lent: among them each node's process, and whether each edge synchronises.
-- Definitions only.
-- Assumes nothing.
use Rattle.std.specs.Prelude.{ℕ, suc, List, Bool, not, eqb, ltb}
use Rattle.loops.specs.Choice.{at, if, both, either}
use Rattle.loops.specs.First.{first}
use Rattle.loops.specs.Any.{any}
use Rattle.loops.specs.Sum.{sum}
use Rattle.plan.specs.Value.{base, share}
use Rattle.plan.specs.Tests.{process_at, different}

-- edge e leads from m to n with t tokens
unfoldable pub is_edge : List ℕ → List ℕ → List ℕ → ℕ → ℕ → ℕ → ℕ → Bool
is_edge source destination tokens m n t e = both (eqb (at source e) m) (both (eqb (at destination e) n) (eqb (at tokens e) t))

-- position i is the last of its process
unfoldable pub is_last : List ℕ → ℕ → ℕ → Bool
is_last lengths processes i = eqb (suc i) (base lengths (suc (process_at lengths processes i)))

-- the position that fires after position i: the next, or the first of the process
unfoldable pub fires_after : List ℕ → ℕ → ℕ → ℕ
fires_after lengths processes i = if (is_last lengths processes i) (base lengths (process_at lengths processes i)) (suc i)

-- the tokens that the process edge from position i starts with
unfoldable pub edge_tokens : List ℕ → ℕ → ℕ → ℕ
edge_tokens lengths processes i = if (is_last lengths processes i) 1 0

-- node v has counter c
unfoldable pub has_counter : List ℕ → ℕ → ℕ → Bool
has_counter counter c v = eqb (at counter v) c

-- number 9
unfoldable pub lacks_edge : List ℕ → List ℕ → List ℕ → ℕ → List ℕ → List ℕ → ℕ → ℕ → Bool
lacks_edge source destination tokens edges order lengths processes i =
    not (any (is_edge source destination tokens (at order i) (at order (fires_after lengths processes i)) (edge_tokens lengths processes i)) edges)

-- number 10: node v has counter c and is in another process than node f
unfoldable pub strays_in : List ℕ → List ℕ → ℕ → ℕ → ℕ → Bool
strays_in homes counter f c v = both (has_counter counter c v) (different homes v f)

unfoldable pub bad_counter_in : List ℕ → List ℕ → ℕ → ℕ → Bool
bad_counter_in homes counter nodes c =
    both (ltb (first (has_counter counter c) nodes) nodes) (any (strays_in homes counter (first (has_counter counter c) nodes) c) nodes)

-- number 11
unfoldable pub sends_in : List ℕ → List ℕ → ℕ → ℕ → Bool
sends_in crossing source v e = both (eqb (at crossing e) 1) (eqb (at source e) v)

unfoldable pub bad_increment_in : List ℕ → List ℕ → ℕ → List ℕ → ℕ → Bool
bad_increment_in crossing source edges increment v = both (eqb (at increment v) 0) (any (sends_in crossing source v) edges)

-- number 12, with counter 0's sum q
unfoldable pub bad_sum_in : List ℕ → List ℕ → ℕ → ℕ → ℕ → Bool
bad_sum_in counter increment nodes q c = either (eqb (sum (share counter increment c) nodes) 0) (not (eqb (sum (share counter increment c) nodes) q))
