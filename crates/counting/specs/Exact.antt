-- Formulas 10 and 14 of 000: with any N the test never finds where no token stands.
-- For an edge whose ends' rounded numbers are known modulo N. Assumes nothing.
use Rattle.std.specs.Prelude.{◌≡◌, true, false, not, ◌↔◌}
use Rattle.std.proofs.Math.Path.{sym, ap}
use Rattle.std.proofs.Common.{◌∙◌, eqb-true, eq-eqb}
use Rattle.std.proofs.Math.Logic.Iff
use Prim.Native.Nat.{ℕ, ◌+◌, ◌*◌, ◌%◌, ◌<◌}
use native.Mathlib.Omega.{arith}
use Rattle.std.proofs.Math.Decide.{dec_lt}
use Rattle.std.proofs.Math.Nat.{eq_of_mul-eq-mul_left}
use Rattle.std.proofs.lemmas.Bool.{not-false}
use Rattle.loops.specs.Choice.{true_false}
use Rattle.counting.specs.Modular.{rounded_up, minus_modulo, finds}
use Rattle.counting.specs.Process.{Counted_edge}
use Rattle.counting.specs.Remainders.{minus_is, plus_congruent}

-- formula 10, with Q times the firings for the rounded counters (formula 9): its two sides are the same exactly where no token stands
pub formula_10 : (q tokens now of_end of_source : ℕ) → 0 < q → now + of_end ≡ tokens + of_source → (q * of_end ≡ q * (tokens + of_source)) ↔ (now ≡ 0)
formula_10 q tokens now of_end of_source h balance = (
  λ e. let s = eq_of_mul-eq-mul_left q h of_end (tokens + of_source) e in omega arith,
  λ e. ap (q *◌) (omega arith),
)

-- the test waits exactly where the two numbers that it compares are the same
waits_is : (q n tokens b_end b_source : ℕ)
    → (finds q n tokens b_end b_source ≡ false) ↔ (minus_modulo n (rounded_up q b_end) (rounded_up q b_source) ≡ q * tokens % n)
unfolding finds
waits_is q n tokens b_end b_source = (λ e. eqb-true _ _ (not-false _ e), λ e. ap not (eq-eqb _ _ e))

module _ {q n tokens now of_end of_source b_end b_source : ℕ} (edge : Counted_edge q n tokens now of_end of_source b_end b_source)
    (h : 0 < q) (z : 0 < n) where
  -- formulas 12 to 14: it waits exactly where the two sides of formula 10 are congruent
  pub waits_congruent : (finds q n tokens b_end b_source ≡ false) ↔ (q * of_end % n ≡ q * (tokens + of_source) % n)
  waits_congruent =
      let A = rounded_up q b_end in
      let B = rounded_up q b_source in
      let s : (q * tokens + B) % n ≡ q * (tokens + of_source) % n =
      ap (◌% n) (let e : q * tokens + B ≡ B + q * tokens = omega arith in e)
      ∙ plus_congruent n B (q * of_source) (q * tokens) edge.source_rounded ∙ ap (◌% n) (omega arith) in
      Iff.trans (waits_is q n tokens b_end b_source)
      (Iff.trans (minus_is n A B z (q * tokens)) (λ e. sym edge.end_rounded ∙ e ∙ s, λ e. edge.end_rounded ∙ e ∙ sym s))

  -- with any N the test waits where no token stands
  pub empty_waits : now ≡ 0 → finds q n tokens b_end b_source ≡ false
  empty_waits e = waits_congruent.1 (ap (◌% n) ((formula_10 q tokens now of_end of_source h edge.balance).1 e))

  -- so it never finds where none stands
  pub never_early : finds q n tokens b_end b_source ≡ true → 0 < now
  never_early e = elim (dec_lt 0 now) [ yes p ↦ p | no p ↦ absurd (true_false (sym e ∙ empty_waits (omega arith))) ]
