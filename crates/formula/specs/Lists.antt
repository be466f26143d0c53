-- b(x), and the counters after a firing, out of a plan's tables and a state's counters as lists; and what is asked of those. Definitions only.
-- Assumes nothing.
use Rattle.std.specs.Prelude.{List, ℕ, ◌+◌, ◌-◌, ◌%◌, ◌≤◌, ◌<◌, set}
use Rattle.loops.specs.Choice.{at}
use Rattle.loops.specs.Sum.{sum}
use Rattle.plan.specs.Value.{base, share}
use Rattle.plan.specs.Tests.{home_of, order_position}
use Rattle.counting.specs.Modular.{less_earlier}

-- ---- b(x)
-- what the nodes of `seat` order positions from `start` on add to counter c
unfoldable pub shares_in : List ℕ → List ℕ → List ℕ → ℕ → ℕ → ℕ → ℕ
shares_in order counter increment c start seat = sum (λ j. share counter increment c (at order (start + j))) seat

-- those positions hold nodes
pub record SeatsOk (order : List ℕ) (start seat : ℕ) : Type 0 where
  pub within : start + seat ≤ 64
  pub entry_lt : (j : ℕ) → j < seat → at order (start + j) < 64

-- "the increments to that counter by nodes earlier in x's process round"
unfoldable pub earlier_in : List ℕ → List ℕ → List ℕ → List ℕ → ℕ → ℕ → ℕ → ℕ
earlier_in order lengths counter increment nodes processes x =
    shares_in order counter increment (at counter x) (base lengths (home_of order lengths nodes processes x))
    (order_position order nodes x - base lengths (home_of order lengths nodes processes x))

-- x is a node, in an order of nodes
pub record PlacedOk (order : List ℕ) (nodes processes x : ℕ) : Type 0 where
  pub nodes_most : nodes ≤ 64
  pub processes_most : processes ≤ 64
  pub node_lt : x < 64
  pub order_lt : (i : ℕ) → i < nodes → at order i < 64

-- "let b(x) be the counter of x less the increments to that counter by nodes earlier in x's process round, modulo N"
unfoldable pub b_in : List ℕ → List ℕ → List ℕ → List ℕ → List ℕ → ℕ → ℕ → ℕ → ℕ → ℕ
b_in order lengths counter increment counters nodes processes modulus x =
    less_earlier modulus (at counters (at counter x)) (earlier_in order lengths counter increment nodes processes x)

-- x has a counter, which is below N
pub record CountedOk (order counter counters : List ℕ) (nodes processes modulus x : ℕ) : Type 0 where
  pub placed : PlacedOk order nodes processes x
  pub counter_lt : at counter x < 64
  pub modulus_most : modulus ≤ 2000000000
  pub value_lt : at counters (at counter x) < modulus

-- what formulas 14 and 15 are worked out of, for an edge and its ends' b
pub record FormulaOk (q n tokens b_one b_other : ℕ) : Type 0 where
  pub q_some : 1 ≤ q
  pub q_most : q ≤ 16320
  pub modulus_some : 1 ≤ n
  pub modulus_most : n ≤ 2000000000
  pub tokens_most : tokens ≤ 1000
  pub one_lt : b_one < n
  pub other_lt : b_other < n

-- ---- a firing's counters
-- "adds the node's increment to its counter modulo N": the counters after a firing of node v
unfoldable pub raised_in : List ℕ → List ℕ → List ℕ → ℕ → ℕ → List ℕ
raised_in counter increment counters modulus v = set counters (at counter v) ((at counters (at counter v) + at increment v) % modulus)

-- v is a node with a counter, which is below N
pub record RaiseOk (counter increment counters : List ℕ) (modulus v : ℕ) : Type 0 where
  pub node_lt : v < 64
  pub counter_lt : at counter v < 64
  pub increment_most : at increment v ≤ 255
  pub modulus_most : modulus ≤ 2000000000
  pub value_lt : at counters (at counter v) < modulus
