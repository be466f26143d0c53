-- The words of tests 5 to 8 tell every two results apart: their promise leaves room for one. Assumes nothing.
use Rattle.std.specs.Prelude.{◌≡◌, refl, ℕ, Result, Ok, Err}
use Rattle.std.proofs.Common.{ap, arith}
use Rattle.plan.specs.declared.Refusal.{Refusal}
use Rattle.plan.specs.Apart.{refusal_one}
use Rattle.entries.specs.Answer.{Passed, Refused, checked}

refused_number : {k p k' p' : ℕ} → Refused k p ≡ Refused k' p' → k ≡ k'
refused_number e = cc

refused_place : {k p k' p' : ℕ} → Refused k p ≡ Refused k' p' → p ≡ p'
refused_place e = cc

not_both : {k p : ℕ} → Refused k p ≡ Passed → ⊥
not_both e = let z : ◌≡◌ {A = ℕ} 0 1 = cc in omega arith

not_passed : {k p : ℕ} → Passed ≡ Refused k p → ⊥
not_passed e = let z : ◌≡◌ {A = ℕ} 0 1 = cc in omega arith

pub checked_one : (r r' : Result (Unit {0}) Refusal) → checked r ≡ checked r' → r ≡ r'
checked_one (Ok d) (Ok d') e = refl
checked_one (Ok d) (Err x) e = absurd (not_passed e)
checked_one (Err x) (Ok d) e = absurd (not_both e)
checked_one (Err x) (Err y) e = ap Err (refusal_one (refused_number e) (refused_place e))
