-- The order position that fires after one below the lengths' sum is below that sum too.
-- Assumes nothing.
use Rattle.std.specs.Prelude.{ℕ, suc, ◌<◌, ◌≡◌, refl, List, Bool, true, false, eqb}
use Rattle.std.proofs.Math.Decide.{dec_lt}
use Rattle.std.proofs.Common.{arith}
use Rattle.std.proofs.lemmas.Bool.{eqb-false}
use Rattle.loops.specs.Choice.{at, if}
use Rattle.loops.specs.Sum.{sum_step}
use Rattle.plan.specs.Value.{base}
use Rattle.plan.specs.Tests.{process_at}
use Rattle.plan.specs.Seating.{begins_before, process_at_lt, ends_after}
use Rattle.rounds.specs.Lent.{is_last, fires_after}

pub fires_after_lt : (lengths : List ℕ) (processes i : ℕ) → i < base lengths processes → fires_after lengths processes i < base lengths processes
unfolding fires_after is_last if base
fires_after_lt lengths processes i h = by_test (eqb (suc i) (base lengths (suc p))) refl
  where
    p : ℕ
    p = process_at lengths processes i

    by_test : (b : Bool) → eqb (suc i) (base lengths (suc p)) ≡ b → if b (base lengths p) (suc i) < base lengths processes
    by_test true e = omega (arith, begins_before lengths processes i p (omega arith))
    by_test false e =
        elim (dec_lt (suc i) (base lengths (suc p))) [
          | yes l ↦ omega (arith, sum_step (at lengths) (suc p) processes (process_at_lt lengths processes i h))
          | no l ↦ absurd (eqb-false (suc i) (base lengths (suc p)) e (omega (arith, ends_after lengths processes i h)))
        ]
