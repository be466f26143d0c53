-- No fault 9 to 16 stands anywhere; Q is then at least 1.
-- Assumes nothing.
use Rattle.std.specs.Prelude.{ℕ, ◌≤◌}
use Rattle.plan.specs.declared.Plan.{Plan}
use Rattle.plan.specs.Value.{counter_sum}
use Rattle.plan.specs.Tables.{Tabled}
use Rattle.judge.specs.Conditions.{C3}
use Rattle.judge.specs.Faults.{Fault9, Fault10, Fault11, Fault12, Fault13, Fault14, Fault15, Fault16}
use Rattle.judge.specs.CounterFaults.{c3_passes}

-- none of the faults 9 to 16 stands anywhere
pub record NoFault (pl : Plan) : Type 0 where
  pub none_9 : (place : ℕ) → Fault9 pl place → ⊥
  pub none_10 : (place : ℕ) → Fault10 pl place → ⊥
  pub none_11 : (place : ℕ) → Fault11 pl place → ⊥
  pub none_12 : (place : ℕ) → Fault12 pl place → ⊥
  pub none_13 : (place : ℕ) → Fault13 pl place → ⊥
  pub none_14 : (place : ℕ) → Fault14 pl place → ⊥
  pub none_15 : (place : ℕ) → Fault15 pl place → ⊥
  pub none_16 : (place : ℕ) → Fault16 pl place → ⊥

module _ (pl : Plan) (t : Tabled pl) where
  -- Q is at least 1 where no counter has fault 12
  pub q_some : ((c : ℕ) → Fault12 pl c → ⊥) → 1 ≤ counter_sum pl 0
  unfolding C3
  q_some none = let c : C3 pl = c3_passes pl t none in (c 0 t.counts.counters_some).1
