-- The faults of 01's table that a plan value can have by itself (numbers 3 and 5 to 8), each at its place, and the shape of a plan value.
-- In 01's words. Definitions only.
-- Assumes nothing.
use Rattle.std.specs.Prelude.{◌≡◌, List, ◌∷◌, ◌⊎◌, ◌≢◌, ℕ, suc, ◌≤◌, ◌<◌}
use Rattle.loops.specs.Choice.{at}
use Rattle.plan.specs.declared.Plan.{Plan}
use Rattle.plan.specs.Order.{Numbered}
use Rattle.plan.specs.Value.{base, counter_sum}

-- "nodes 1 to 64, processes 1 to 64, edges 1 to 512, counters 1 to 64, N 1 to 2,000,000,000"
pub record CountsFit (pl : Plan) : Type 0 where
  pub nodes_some : 1 ≤ pl.nodes
  pub nodes_most : pl.nodes ≤ 64
  pub processes_some : 1 ≤ pl.processes
  pub processes_most : pl.processes ≤ 64
  pub edges_some : 1 ≤ pl.edges
  pub edges_most : pl.edges ≤ 512
  pub counters_some : 1 ≤ pl.counters
  pub counters_most : pl.counters ≤ 64
  pub modulus_some : 1 ≤ pl.modulus
  pub modulus_most : pl.modulus ≤ 2000000000

module _ (pl : Plan) where
  -- 3: "a count or N outside its bounds", place 0
  unfoldable pub Fault3 : ℕ → Type 0
  Fault3 place = (place ≡ 0) × (CountsFit pl → ⊥)

  -- 5: "a process length 0; else lengths not adding up to nodes", place "process; else number of processes"
  unfoldable pub Fault5 : ℕ → Type 0
  Fault5 place =
      ((place < pl.processes) × (at pl.lengths place ≡ 0))
      ⊎ ((place ≡ pl.processes) × (base pl.lengths pl.processes ≢ pl.nodes))

  -- 6: "an order entry not a node, or a node seen before", place "order position"
  unfoldable pub Fault6 : ℕ → Type 0
  Fault6 place =
      (place < pl.nodes)
      × ((pl.nodes ≤ at pl.order place) ⊎ ((earlier : ℕ) × (earlier < place) × (at pl.order earlier ≡ at pl.order place)))

  -- 7: "counter unknown, increment too large", place "node"
  unfoldable pub Fault7 : ℕ → Type 0
  Fault7 place = (place < pl.nodes) × ((pl.counters ≤ at pl.counter place) ⊎ (255 < at pl.increment place))

  -- "strictly rising by source, then destination": edge e is above edge d
  unfoldable pub Above : ℕ → ℕ → Type 0
  Above d e =
      (at pl.source d < at pl.source e)
      ⊎ ((at pl.source d ≡ at pl.source e) × (at pl.destination d < at pl.destination e))

  -- 8: "an end unknown, too many tokens, edge not above the one before it", place "edge"
  unfoldable pub Fault8 : ℕ → Type 0
  Fault8 place =
      (place < pl.edges)
      × ((pl.nodes ≤ at pl.source place)
      ⊎ ((pl.nodes ≤ at pl.destination place)
      ⊎ ((1000 < at pl.tokens place)
      ⊎ ((before : ℕ) × (suc before ≡ place) × (Above before place → ⊥)))))

  -- "A plan value is in shape when tests 3, 5, 6, 7 and 8 pass on it and its Q is counter 0's sum and at least 1"
  pub record InShape : Type 0 where
    pub passes_3 : (place : ℕ) → Fault3 place → ⊥
    pub passes_5 : (place : ℕ) → Fault5 place → ⊥
    pub passes_6 : (place : ℕ) → Fault6 place → ⊥
    pub passes_7 : (place : ℕ) → Fault7 place → ⊥
    pub passes_8 : (place : ℕ) → Fault8 place → ⊥
    pub q_is : pl.q ≡ counter_sum pl 0
    pub q_some : 1 ≤ pl.q

-- the faults of a plan value's tables in the order of their tests, and those that come after them
unfoldable pub tables_order : Plan → List Numbered → List Numbered
tables_order pl rest = (5, Fault5 pl) ∷ (6, Fault6 pl) ∷ (7, Fault7 pl) ∷ (8, Fault8 pl) ∷ rest
