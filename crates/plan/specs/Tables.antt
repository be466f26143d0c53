-- What a plan value's tables hold where tests 3, 5, 6, 7 and 8 pass (01, "The plan image"). Definitions only.
-- Assumes nothing.
use Rattle.std.specs.Prelude.{◌≡◌, ℕ, suc, ◌≤◌, ◌<◌}
use Rattle.loops.specs.Choice.{at}
use Rattle.plan.specs.declared.Plan.{Plan}
use Rattle.plan.specs.Value.{base}
use Rattle.plan.specs.Faults.{CountsFit, Above}

pub record Tabled (pl : Plan) : Type 0 where
  -- "Bounds: nodes 1 to 64, …"
  pub counts : CountsFit pl
  -- "two bytes a process (its length)": at least 1 each, and together the nodes
  pub length_some : (p : ℕ) → p < pl.processes → 1 ≤ at pl.lengths p
  pub full : base pl.lengths pl.processes ≡ pl.nodes
  -- "node numbers, process after process": each a node, none twice
  pub order_lt : (i : ℕ) → i < pl.nodes → at pl.order i < pl.nodes
  pub order_apart : (i j : ℕ) → i < pl.nodes → j < pl.nodes → at pl.order i ≡ at pl.order j → i ≡ j
  -- "counters", "increment 0 to 255"
  pub counter_lt : (v : ℕ) → v < pl.nodes → at pl.counter v < pl.counters
  pub increment_most : (v : ℕ) → v < pl.nodes → at pl.increment v ≤ 255
  -- "(source, destination, tokens)", "tokens 0 to 1,000"
  pub source_lt : (e : ℕ) → e < pl.edges → at pl.source e < pl.nodes
  pub destination_lt : (e : ℕ) → e < pl.edges → at pl.destination e < pl.nodes
  pub tokens_most : (e : ℕ) → e < pl.edges → at pl.tokens e ≤ 1000
  -- "strictly rising by source, then destination"
  pub rising : (e : ℕ) → suc e < pl.edges → Above pl e (suc e)
