-- A sum: what such a loop computes, its invariant, and the laws of a finished sum.
-- `search (rules, sums)` answers such a loop's goals. Assumes nothing.
use Rattle.std.specs.Prelude.{ℕ, zero, suc, ◌+◌, ◌*◌, ◌<◌, ◌≤◌, ◌≡◌, refl}
use Rattle.std.proofs.Common.{suc-mul, add-le-add, add-one, arith, ap, ◌∙◌}
use Rattle.std.proofs.Math.Decide.{ℕ_discrete}
unfoldable pub use Rattle.loops.specs.Values.{sum}

-- the invariant at i
pub record Sum (f : ℕ → ℕ) (n i s : ℕ) : Type 0 where
  pub within : i ≤ n
  pub so_far : s ≡ sum f i

pub sum_begin : (f : ℕ → ℕ) (n : ℕ) → Sum f n 0 0
unfolding sum
sum_begin f n = record { within = omega arith; so_far = refl }

pub sum_more : {f : ℕ → ℕ} {n i s r : ℕ} → Sum f n i s → i < n → r ≡ f i → Sum f n (i + 1) (s + r)
unfolding sum
sum_more {f} {n} {i} inv h e = record { within = omega arith; so_far = rw (inv.so_far, e, add-one) }

pub sum_over : {f : ℕ → ℕ} {n i s : ℕ} → Sum f n i s → n ≤ i → s ≡ sum f n
sum_over {f} {n} {i} inv h = let e : i ≡ n = omega arith in inv.so_far ∙ rw e

pub ruleset sums = (sum_begin, sum_more, sum_over)

-- bounds: each summand at most b
pub sum_le : (f : ℕ → ℕ) (b : ℕ) → ((k : ℕ) → f k ≤ b) → (n : ℕ) → sum f n ≤ n * b
unfolding sum
sum_le f b h zero = omega arith
sum_le f b h (suc n) = rw suc-mul (add-le-add (sum_le f b h n) (h n))

-- the same where only the summands that are added are known
pub sum_le_below : (f : ℕ → ℕ) (b n : ℕ) → ((k : ℕ) → k < n → f k ≤ b) → sum f n ≤ n * b
unfolding sum
sum_le_below f b zero h = omega arith
sum_le_below f b (suc n) h = rw suc-mul (add-le-add (sum_le_below f b n (λ k l. h k (omega arith))) (h n (omega arith)))

-- a longer sum is not below a shorter one
pub sum_step : (f : ℕ → ℕ) (i j : ℕ) → i ≤ j → sum f i ≤ sum f j
unfolding sum
sum_step f i zero h = omega (arith, ap (sum f) (let e : i ≡ 0 = omega arith in e))
sum_step f i (suc j) h =
    elim (ℕ_discrete i (suc j)) [
      | yes p ↦ omega (arith, ap (sum f) p)
      | no p ↦ omega (arith, sum_step f i j (omega arith))
    ]

-- a summand is at most the sum
pub sum_at : (f : ℕ → ℕ) (n k : ℕ) → k < n → f k ≤ sum f n
unfolding sum
sum_at f n k h = omega (arith, sum_step f (suc k) n h)

-- equal and smaller summands
pub sum_same : (f g : ℕ → ℕ) (n : ℕ) → ((k : ℕ) → k < n → f k ≡ g k) → sum f n ≡ sum g n
unfolding sum
sum_same f g zero h = refl
sum_same f g (suc n) h = omega (arith, sum_same f g n (λ k l. h k (omega arith)), h n (omega arith))

pub sum_mono : (f g : ℕ → ℕ) (n : ℕ) → ((k : ℕ) → k < n → f k ≤ g k) → sum f n ≤ sum g n
unfolding sum
sum_mono f g zero h = omega arith
sum_mono f g (suc n) h = omega (arith, sum_mono f g n (λ k l. h k (omega arith)), h n (omega arith))

-- nothing to add
pub sum_none : (f : ℕ → ℕ) (n : ℕ) → ((k : ℕ) → k < n → f k ≡ 0) → sum f n ≡ 0
unfolding sum
sum_none f zero h = refl
sum_none f (suc n) h = omega (arith, sum_none f n (λ k l. h k (omega arith)), h n (omega arith))

-- a sum in two parts
pub sum_split : (f : ℕ → ℕ) (a b : ℕ) → sum f (a + b) ≡ sum f a + sum (λ j. f (a + j)) b
unfolding sum
sum_split f a zero = omega (arith, ap (sum f) (let e : a + 0 ≡ a = omega arith in e))
sum_split f a (suc b) = omega (arith, sum_split f a b, ap (sum f) (let e : a + suc b ≡ suc (a + b) = omega arith in e))
