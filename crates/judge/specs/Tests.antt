-- Tests 9 to 16 in order and the least modulus, as the program works them out. Definitions only.
-- Assumes nothing.
use Rattle.std.specs.Prelude.{ℕ, ◌*◌, ◌%◌, ◌≡◌, List, Bool, not, eqb}
use Rattle.loops.specs.Sum.{sum}
use Rattle.loops.specs.Table.{padded}
use Rattle.plan.specs.declared.Plan.{Plan}
use Rattle.plan.specs.Value.{share, counter_sum, edge_sum}
use Rattle.plan.specs.Tests.{bad_counts, refuse_lowest, refuse_if, tables_then}
use Rattle.plan.specs.Tests.{home_table}
use Rattle.seats.specs.Crossing.{crossing_table}
use Rattle.rounds.specs.Lent.{lacks_edge, bad_counter_in, bad_increment_in, bad_sum_in}
use Rattle.cycles.specs.Lent.{loop_sum_in, on_free_cycle_in, no_way_back_in, not_above_in, most_asked}
use Rattle.judge.specs.Answer.{Answer}
use Rattle.judge.specs.Answer.{Accepted, Refused}

-- the loop sums of edges as a table, 0 past the count
abbrev pub sums_of : (source destination tokens : List ℕ) (edges : ℕ) → List ℕ
sums_of source destination tokens edges = padded (loop_sum_in source destination tokens edges) 512 edges

-- counter 0's sum
abbrev pub counter_0 : (counter increment : List ℕ) (nodes : ℕ) → ℕ
counter_0 counter increment nodes = sum (share counter increment 0) nodes

module _ (pl : Plan) where
  -- number 9
  abbrev pub bad_order_position : ℕ → Bool
  bad_order_position = lacks_edge pl.source pl.destination pl.tokens pl.edges pl.order pl.lengths pl.processes

  -- number 10
  abbrev pub bad_counter : ℕ → Bool
  bad_counter = bad_counter_in (home_table pl) pl.counter pl.nodes

  -- number 11
  abbrev pub bad_increment : ℕ → Bool
  bad_increment = bad_increment_in (crossing_table pl) pl.source pl.edges pl.increment

  -- number 12
  abbrev pub bad_sum : ℕ → Bool
  bad_sum = bad_sum_in pl.counter pl.increment pl.nodes (counter_sum pl 0)

  -- the tokens of the emptiest cycle through an edge: its own and those of the emptiest route back
  abbrev pub loop_sum : ℕ → ℕ
  loop_sum = loop_sum_in pl.source pl.destination pl.tokens pl.edges

  -- those of every edge as a table, 0 past the count
  abbrev pub sum_table : List ℕ
  sum_table = sums_of pl.source pl.destination pl.tokens pl.edges

  -- number 13
  abbrev pub on_free_cycle : ℕ → Bool
  on_free_cycle = on_free_cycle_in pl.destination sum_table pl.edges

  -- number 14
  abbrev pub no_way_back : ℕ → Bool
  no_way_back = no_way_back_in (crossing_table pl) sum_table

  -- number 15
  abbrev pub not_multiple : Bool
  not_multiple = not (eqb (pl.modulus % counter_sum pl 0) 0)

  -- number 16
  abbrev pub not_above_bound : ℕ → Bool
  not_above_bound = not_above_in (crossing_table pl) sum_table pl.modulus (edge_sum pl)

  -- "the least modulus: the smallest N that would pass 15 and 16"
  unfoldable pub least_modulus : ℕ
  least_modulus = counter_sum pl 0 * most_asked (crossing_table pl) sum_table pl.edges

-- tests 15 and 16 over the rows of synchronising edges and loop sums, then accepted with Q, N and the least modulus
unfoldable pub from_15_in : (crossing sums : List ℕ) (edges modulus q : ℕ) → Answer
from_15_in crossing sums edges modulus q =
    refuse_if Refused 15 (not (eqb (modulus % q) 0))
    (refuse_lowest Refused 16 (not_above_in crossing sums modulus (λ e. q)) edges
    (Accepted q modulus (q * most_asked crossing sums edges)))

-- tests 13 to 16
unfoldable pub from_13_in : (crossing sums destination : List ℕ) (nodes edges modulus q : ℕ) → Answer
from_13_in crossing sums destination nodes edges modulus q =
    refuse_lowest Refused 13 (on_free_cycle_in destination sums edges) nodes
    (refuse_lowest Refused 14 (no_way_back_in crossing sums) edges
    (from_15_in crossing sums edges modulus q))

-- tests 11 to 16
unfoldable pub from_11_in : (crossing sums source destination counter increment : List ℕ) (nodes edges counters modulus q : ℕ) → Answer
from_11_in crossing sums source destination counter increment nodes edges counters modulus q =
    refuse_lowest Refused 11 (bad_increment_in crossing source edges increment) nodes
    (refuse_lowest Refused 12 (bad_sum_in counter increment nodes q) counters
    (from_13_in crossing sums destination nodes edges modulus q))

-- tests 9 to 16 of a plan value
unfoldable pub from_9 : Plan → Answer
from_9 pl =
    refuse_lowest Refused 9 (bad_order_position pl) pl.nodes
    (refuse_lowest Refused 10 (bad_counter pl) pl.counters
    (from_11_in (crossing_table pl) (sum_table pl) pl.source pl.destination pl.counter pl.increment pl.nodes pl.edges pl.counters
    pl.modulus (counter_sum pl 0)))

-- tests 5 to 16
unfoldable pub from_5 : Plan → Answer
from_5 pl = tables_then Refused pl (from_9 pl)

-- what the judge answers of any plan value: tests 3 and 5 to 16 in 01's order; its Q is not looked at
unfoldable pub judged : Plan → Answer
judged pl = refuse_if Refused 3 (bad_counts pl.nodes pl.processes pl.edges pl.counters pl.modulus) (from_5 pl)

-- the plan value is accepted
abbrev pub AcceptedPlan : Plan → Type 0
AcceptedPlan pl = (q modulus least : ℕ) × (judged pl ≡ Accepted q modulus least)
