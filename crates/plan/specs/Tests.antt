-- Tests 3 and 5 to 8, the process of a node and the shape of a plan value, as the program works them out. Definitions only.
-- Assumes nothing.
use Rattle.std.specs.Prelude.{ℕ, suc, ◌-◌, List, Bool, true, false, eqb, ltb, leb}
use Rattle.loops.specs.Choice.{at, if, both, either}
use Rattle.loops.specs.First.{first}
use Rattle.loops.specs.Any.{any}
use Rattle.loops.specs.Table.{padded}
use Rattle.plan.specs.declared.Plan.{Plan}
use Rattle.plan.specs.Value.{base, counter_sum}

-- x is below `low` or above `high`
unfoldable pub outside : ℕ → ℕ → ℕ → Bool
outside low high x = either (ltb x low) (ltb high x)

-- number 3
unfoldable pub bad_counts : ℕ → ℕ → ℕ → ℕ → ℕ → Bool
bad_counts nodes processes edges counters modulus =
    either (outside 1 64 nodes) (either (outside 1 64 processes) (either (outside 1 512 edges) (either (outside 1 64 counters) (outside 1 2000000000 modulus))))

-- number 5, its first part
unfoldable pub zero_length : List ℕ → ℕ → Bool
zero_length lengths p = eqb (at lengths p) 0

-- number 6
unfoldable pub same_entry : List ℕ → ℕ → ℕ → Bool
same_entry order i j = eqb (at order j) (at order i)

unfoldable pub bad_order : List ℕ → ℕ → ℕ → Bool
bad_order order nodes i = either (leb nodes (at order i)) (any (same_entry order i) i)

-- number 7
unfoldable pub bad_node : List ℕ → List ℕ → ℕ → ℕ → Bool
bad_node counter increment counters v = either (leb counters (at counter v)) (ltb 255 (at increment v))

-- number 8: the pair (c, d) is not above the pair (a, b)
unfoldable pub not_above : ℕ → ℕ → ℕ → ℕ → Bool
not_above a b c d = either (ltb c a) (both (eqb c a) (leb d b))

-- edge e has an edge before it and is not above that one
unfoldable pub not_rising : List ℕ → List ℕ → ℕ → Bool
not_rising source destination e =
    both (ltb 0 e) (not_above (at source (e - 1)) (at destination (e - 1)) (at source e) (at destination e))

unfoldable pub bad_edge : List ℕ → List ℕ → List ℕ → ℕ → ℕ → Bool
bad_edge source destination tokens nodes e =
    either (leb nodes (at source e)) (either (leb nodes (at destination e)) (either (ltb 1000 (at tokens e)) (not_rising source destination e)))

-- the position of a node in the firing order
unfoldable pub stands_at : List ℕ → ℕ → ℕ → Bool
stands_at order v i = eqb (at order i) v

unfoldable pub order_position : List ℕ → ℕ → ℕ → ℕ
order_position order nodes v = first (stands_at order v) nodes

-- the process of a position
unfoldable pub ends_past : List ℕ → ℕ → ℕ → Bool
ends_past lengths i p = ltb i (base lengths (suc p))

unfoldable pub process_at : List ℕ → ℕ → ℕ → ℕ
process_at lengths processes i = first (ends_past lengths i) processes

-- the process of a node
unfoldable pub home_of : List ℕ → List ℕ → ℕ → ℕ → ℕ → ℕ
home_of order lengths nodes processes v = process_at lengths processes (order_position order nodes v)

unfoldable pub home : Plan → ℕ → ℕ
home pl v = home_of pl.order pl.lengths pl.nodes pl.processes v

-- the processes of the nodes as a table, 0 past the count
abbrev pub home_table : Plan → List ℕ
home_table pl = padded (home_of pl.order pl.lengths pl.nodes pl.processes) 64 pl.nodes

-- its seat in that process's round
unfoldable pub seat : Plan → ℕ → ℕ
seat pl v = order_position pl.order pl.nodes v - base pl.lengths (home pl v)

-- the ends of an edge are in different processes
unfoldable pub synchronises : Plan → ℕ → Bool
synchronises pl e = if (eqb (home pl (at pl.source e)) (home pl (at pl.destination e))) false true

-- the same from a table of the processes of the nodes
unfoldable pub different : List ℕ → ℕ → ℕ → Bool
different homes v w = if (eqb (at homes v) (at homes w)) false true

-- ---- tests in order
module _ {A : Type 0} (refused : ℕ → ℕ → A) where
  -- refused with `number` at the lowest place below `bound` where the test is true; otherwise what comes next
  unfoldable pub refuse_lowest : ℕ → (ℕ → Bool) → ℕ → A → A
  refuse_lowest number test bound next = if (ltb (first test bound) bound) (refused number (first test bound)) next

  -- refused with `number` at place 0 where the test is true; otherwise what comes next
  unfoldable pub refuse_if : ℕ → Bool → A → A
  refuse_if number test next = if test (refused number 0) next

  -- tests 6 to 8 of a plan value, then what comes next
  unfoldable pub order_then : Plan → A → A
  order_then pl next =
      refuse_lowest 6 (bad_order pl.order pl.nodes) pl.nodes
      (refuse_lowest 7 (bad_node pl.counter pl.increment pl.counters) pl.nodes
      (refuse_lowest 8 (bad_edge pl.source pl.destination pl.tokens pl.nodes) pl.edges
      next))

  -- tests 5 to 8 of a plan value, then what comes next
  unfoldable pub tables_then : Plan → A → A
  tables_then pl next =
      refuse_lowest 5 (zero_length pl.lengths) pl.processes
      (if (eqb (base pl.lengths pl.processes) pl.nodes) (order_then pl next) (refused 5 pl.processes))

-- its Q is counter 0's sum and at least 1
unfoldable pub q_fits : Plan → Bool
q_fits pl = both (eqb (counter_sum pl 0) pl.q) (leb 1 pl.q)

-- the shape of a plan value: "tests 3, 5, 6, 7 and 8 pass on it and its Q is counter 0's sum and at least 1"
unfoldable pub plan_fits : Plan → Bool
plan_fits pl =
    if (bad_counts pl.nodes pl.processes pl.edges pl.counters pl.modulus) false (tables_then (λ number place. false) pl (q_fits pl))
