-- Cases by a test, counts of a test, and sums that are 0.
-- Assumes nothing.
use Rattle.std.specs.Prelude.{◌≡◌, ℕ, ◌<◌, Bool, true, false, ◌≢◌, ◌↔◌, refl}
use Rattle.std.proofs.Common.{arith}
use Rattle.loops.specs.Choice.{if, one_if}
use Rattle.loops.specs.Sum.{sum, sum_at, sum_none}

-- what holds on either side of a test holds of the choice by it
pub if_either : {A : Type 0} (P : A → Type 0) (t : Bool) (a b : A) → (t ≡ true → P a) → (t ≡ false → P b) → P (if t a b)
unfolding if
if_either P true a b f g = f refl
if_either P false a b f g = g refl

-- 1 where the test is true
pub one_if_true : (t : Bool) → t ≡ true → one_if t ≡ 1
unfolding one_if if
one_if_true t e = rw e

-- 0 where it is false
pub one_if_false : (t : Bool) → t ≡ false → one_if t ≡ 0
unfolding one_if if
one_if_false t e = rw e

-- not 0: the test is true
pub one_if_some : (t : Bool) → one_if t ≢ 0 → t ≡ true
unfolding one_if if
one_if_some true d = refl
one_if_some false d = absurd (d refl)

-- a choice between x and 0 that is not 0 is x
pub if_some : (t : Bool) (x : ℕ) → if t x 0 ≢ 0 → (t ≡ true) × (x ≢ 0)
unfolding if
if_some true x d = (refl, d)
if_some false x d = absurd (d refl)

-- a sum is 0 exactly where each summand is
pub sum_zero : (f : ℕ → ℕ) (n : ℕ) → (sum f n ≡ 0) ↔ ((k : ℕ) → k < n → f k ≡ 0)
sum_zero f n = (λ z k h. omega (arith, sum_at f n k h), sum_none f n)
