-- Q times a loop sum fits 32 bits; loop sums stay bounded.
-- Assumes nothing.
use Rattle.std.specs.Prelude.{ℕ, ◌*◌, ◌≤◌, List, length, set, replicate}
use Rattle.std.proofs.Common.{mul-le-mul, arith, Fits}
use Rattle.std.proofs.Math.Decide.{ℕ_discrete, dec_lt}
use Rattle.std.proofs.Math.Path.{ap}
use Rattle.std.proofs.Math.Seq.{get_or-set_same, get_or-set_other, set_out}
use Rattle.std.specs.Int.{w32}
use Rattle.loops.specs.Choice.{at}
use Rattle.loops.specs.Table.{zeros_at}
use Rattle.cycles.specs.Lent.{Bounded}

pub product_fits : {q s : ℕ} → q ≤ 16320 → s ≤ 165536 → Fits w32 (q * s)
product_fits {q} {s} a b = record { fits = omega (arith, mul-le-mul a b) }

-- a table of zeros is bounded
pub zeros_bounded : Bounded (replicate 512 0)
zeros_bounded e = omega (arith, zeros_at 512 e)

-- and stays so where a bounded number is entered
pub set_bounded : (sums : List ℕ) (e s : ℕ) → Bounded sums → s ≤ 165535 → Bounded (set sums e s)
set_bounded sums e s h l k =
    elim (ℕ_discrete k e) [
      | yes p ↦
          elim (dec_lt e (length sums)) [
            | yes q ↦ omega (arith, ap (λ j. at (set sums e s) j) p, get_or-set_same sums e s 0 q)
            | no q ↦ omega (arith, ap (λ x. at x k) (set_out sums e s (omega arith)), h k)
          ]
      | no p ↦ omega (arith, get_or-set_other sums e k s 0 p, h k)
    ]
