-- The faults 9 to 16 of 01's table, each at its place, in 01's words. Definitions only.
-- Assumes nothing.
use Rattle.std.specs.Prelude.{◌≡◌, List, [], ◌∷◌, ◌⊎◌, ◌≢◌, ℕ, suc, ◌+◌, ◌*◌, ◌≤◌, ◌<◌}
use Rattle.loops.specs.Choice.{at}
use Rattle.net.specs.Graph.{Linked, Cycle, tokens_on}
use Rattle.net.specs.Processes.{Edge}
use Rattle.plan.specs.declared.Plan.{Plan}
use Rattle.plan.specs.Order.{Numbered}
use Rattle.plan.specs.Faults.{Fault3, tables_order}
use Rattle.plan.specs.Value.{graph_of, base, node_at, InProcess, Synchronising, counter_sum, edge_sum}
use Rattle.judge.specs.Conditions.{RouteBack, Multiple}

module _ (pl : Plan) where
  -- the process edge that leaves seat j of process p: to the next seat with no token, from the last to the first with one
  pub record ProcessEdge (p j : ℕ) : Type 0 where
    pub on : suc j < at pl.lengths p → Edge (graph_of pl) (node_at pl p j) (node_at pl p (suc j)) 0
    pub closing : suc j ≡ at pl.lengths p → Edge (graph_of pl) (node_at pl p j) (node_at pl p 0) 1

  -- 9: "process edge missing or with wrong tokens", place "order position of its source"
  pub record Fault9 (place : ℕ) : Type 0 where
    pub process : ℕ
    pub seat : ℕ
    pub process_lt : process < pl.processes
    pub seat_lt : seat < at pl.lengths process
    pub here : place ≡ base pl.lengths process + seat
    pub broken : ProcessEdge process seat → ⊥

  -- 10: "C1 broken", place "counter": two of its nodes are in different processes
  pub record Fault10 (place : ℕ) : Type 0 where
    pub known : place < pl.counters
    pub one : ℕ
    pub other : ℕ
    pub one_lt : one < pl.nodes
    pub other_lt : other < pl.nodes
    pub one_has : at pl.counter one ≡ place
    pub other_has : at pl.counter other ≡ place
    pub process_of_one : ℕ
    pub process_of_other : ℕ
    pub one_in : InProcess pl one process_of_one
    pub other_in : InProcess pl other process_of_other
    pub differ : process_of_one ≢ process_of_other

  -- 11: "C2 broken", place "node": a node with a synchronising out-edge has increment 0
  unfoldable pub Fault11 : ℕ → Type 0
  Fault11 place = (place < pl.nodes) × (at pl.increment place ≡ 0) × ((e : ℕ) × Synchronising pl e × (at pl.source e ≡ place))

  -- 12: "a counter's sum is 0 or differs from counter 0's", place "counter"
  unfoldable pub Fault12 : ℕ → Type 0
  Fault12 place = (place < pl.counters) × ((counter_sum pl place ≡ 0) ⊎ (counter_sum pl place ≢ counter_sum pl 0))

  -- 13: "a cycle without tokens", place "lowest node on one"
  unfoldable pub Fault13 : ℕ → Type 0
  Fault13 place = (place < pl.nodes) × ((es : List ℕ) × Cycle (graph_of pl) place es × (tokens_on (graph_of pl).tokens es ≡ 0))

  -- 14: "synchronising edge without a route back", place "edge"
  unfoldable pub Fault14 : ℕ → Type 0
  Fault14 place = Synchronising pl place × (Linked (graph_of pl) (at pl.destination place) (at pl.source place) → ⊥)

  -- 15: "N not a multiple of Q", place 0
  unfoldable pub Fault15 : ℕ → Type 0
  Fault15 place = (place ≡ 0) × (Multiple pl pl.modulus → ⊥)

  -- 16: "N not above the bound", place "edge"
  unfoldable pub Fault16 : ℕ → Type 0
  Fault16 place = Synchronising pl place × ((d : ℕ) × RouteBack pl place d × (pl.modulus ≤ edge_sum pl place * (at pl.tokens place + d)))

  -- the faults 9 to 16 in the order of their tests
  unfoldable pub conditions_order : List Numbered
  conditions_order =
      (9, Fault9) ∷ (10, Fault10) ∷ (11, Fault11) ∷ (12, Fault12) ∷ (13, Fault13) ∷ (14, Fault14) ∷ (15, Fault15) ∷ (16, Fault16) ∷ []

  -- those of a plan value from 5 on
  unfoldable pub order_from_5 : List Numbered
  order_from_5 = tables_order pl conditions_order

  -- all of a plan value's: the one list by which it is turned down
  unfoldable pub plan_order : List Numbered
  plan_order = (3, Fault3 pl) ∷ order_from_5
