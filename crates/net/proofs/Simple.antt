-- 000's simple cycles: every cycle holds a token exactly where every simple one does.
-- Assumes nothing.
use Rattle.std.proofs.Common.{arith}
use mathlib.Core.List.{List}
use Rattle.std.specs.Prelude.{◌↔◌}
use Prim.Native.Nat.{ℕ, ◌<◌}
use Rattle.net.specs.Graph.{Graph, Marking, tokens_on, EveryCycleHolds}
use Rattle.net.specs.Simple.{SimpleCycle, simple_inside}

module _ (G : Graph) where
  -- so 01's C0 says the same of all cycles as of the simple ones
  pub simple_cycles_enough : (μ : Marking) → EveryCycleHolds G μ ↔ ((v : ℕ) (es : List ℕ) → SimpleCycle G v es → 0 < tokens_on μ es)
  unfolding EveryCycleHolds
  simple_cycles_enough μ = (
    λ holds v es c. holds v es c.cycle,
    λ simple v es c. let t = simple_inside G μ v es c in omega (arith, simple t.0 t.1 t.2, t.3),
  )
