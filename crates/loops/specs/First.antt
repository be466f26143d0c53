-- A search for the lowest place at which a test is true: what it computes, its invariant, and what a finished search tells.
-- `search (rules, firsts)` answers such a loop's goals. Assumes nothing.
use Rattle.std.specs.Prelude.{ℕ, zero, suc, ◌+◌, ◌-◌, ◌<◌, ◌≤◌, ◌≡◌, refl, Bool, true, false}
use Rattle.std.proofs.Common.{eq-or-lt_of_le, add-one, arith, sym, ap, ◌∙◌, ⊎_elim}
use Rattle.std.proofs.Math.Decide.{dec_lt}
use Rattle.loops.specs.Choice.{if, true_false}
unfoldable pub use Rattle.loops.specs.Values.{first_of, first}

-- the invariant at i
pub record First (f : ℕ → Bool) (n i : ℕ) : Type 0 where
  pub within : i ≤ n
  pub rest : first f n ≡ first_of f i (n - i)

-- i is below n: what is left is one more than what is left after i
pub left_step : (n i : ℕ) → i < n → n - i ≡ suc (n - (i + 1))
left_step n i h = omega arith

pub first_begin : (f : ℕ → Bool) (n : ℕ) → First f n 0
unfolding first
first_begin f n = let e : n - 0 ≡ n = omega arith in record { within = omega arith; rest = rw e }

pub first_hit : {f : ℕ → Bool} {n i : ℕ} {r : Bool} → First f n i → i < n → r ≡ f i → r ≡ true → i ≡ first f n
unfolding first_of if
first_hit {f} {n} {i} inv h e t = sym (inv.rest ∙ rw (left_step n i, ← e, t))

pub first_miss : {f : ℕ → Bool} {n i : ℕ} {r : Bool} → First f n i → i < n → r ≡ f i → r ≡ false → First f n (i + 1)
unfolding first_of if
first_miss {f} {n} {i} inv h e t = record { within = omega arith; rest = inv.rest ∙ rw (left_step n i, ← e, t, add-one) }

pub first_over : {f : ℕ → Bool} {n i : ℕ} → First f n i → n ≤ i → i ≡ first f n
unfolding first_of if
first_over {f} {n} {i} inv h = let z : n - i ≡ 0 = omega arith in sym (inv.rest ∙ rw z)

pub ruleset firsts = (first_begin, first_hit, first_miss, first_over)

-- what a search from i tells: it stays in its bounds, the test is false below what it finds, and true there
pub record Lowest (f : ℕ → Bool) (i m r : ℕ) : Type 0 where
  pub low : i ≤ r
  pub high : r ≤ i + m
  pub below : (k : ℕ) → i ≤ k → k < r → f k ≡ false
  pub here : r < i + m → f r ≡ true

firstOf_lowest : (f : ℕ → Bool) (i m : ℕ) → Lowest f i m (first_of f i m)
unfolding first_of if
firstOf_lowest f i zero = record { low = omega arith; high = omega arith; below = λ k l h. absurd (omega arith); here = λ h. absurd (omega arith) }
firstOf_lowest f i (suc m) = by_test (f i) refl (firstOf_lowest f (suc i) m)
  where
    by_test : (b : Bool) → f i ≡ b → Lowest f (suc i) m (first_of f (suc i) m) → Lowest f i (suc m) (if b i (first_of f (suc i) m))
    by_test true e t = record { low = omega arith; high = omega arith; below = λ k l h. absurd (omega arith); here = λ h. e }
    by_test false e t =
        record {
          low = omega (arith, t.low);
          high = omega (arith, t.high);
          below = λ k l h. ⊎_elim (λ q. ap f (sym q) ∙ e) (λ q. t.below k q h) (eq-or-lt_of_le l);
          here = λ h. t.here (omega arith);
        }

module _ (f : ℕ → Bool) (n : ℕ) where
  pub first_le : first f n ≤ n
  unfolding first
  first_le = omega (arith, (firstOf_lowest f 0 n).high)

  -- the test is false below the place that was found
  pub first_below : (k : ℕ) → k < first f n → f k ≡ false
  unfolding first
  first_below k h = (firstOf_lowest f 0 n).below k (omega arith) h

  -- and true there
  pub first_here : first f n < n → f (first f n) ≡ true
  unfolding first
  first_here h = (firstOf_lowest f 0 n).here (omega arith)

  -- nothing was found: the test is false everywhere below n
  pub first_none : (k : ℕ) → n ≤ first f n → k < n → f k ≡ false
  first_none k h l = first_below k (omega arith)

  -- where the test is false everywhere, nothing is found
  pub first_all : ((k : ℕ) → k < n → f k ≡ false) → first f n ≡ n
  first_all g =
      elim (dec_lt (first f n) n) [
        | yes p ↦ absurd (true_false (sym (first_here p) ∙ g (first f n) p))
        | no p ↦ omega (arith, first_le)
      ]

  -- a place where the test is true, and false below it, is the one that is found
  pub first_unique : (r : ℕ) → r < n → f r ≡ true → ((k : ℕ) → k < r → f k ≡ false) → first f n ≡ r
  first_unique r h t g =
      elim (dec_lt r (first f n)) [
        | yes p ↦ absurd (true_false (sym t ∙ first_below r p))
        | no p ↦
            elim (dec_lt (first f n) r) [
              | yes q ↦ absurd (true_false (sym (first_here (omega arith)) ∙ g (first f n) q))
              | no q ↦ omega arith
            ]
      ]

-- a search goes only by the answers of its test
pub first_same : (f g : ℕ → Bool) (n : ℕ) → ((k : ℕ) → k < n → f k ≡ g k) → first f n ≡ first g n
first_same f g n h =
    elim (dec_lt (first g n) n) [
      | yes p ↦ first_unique f n (first g n) p (h (first g n) p ∙ first_here g n p) (λ k l. h k (omega arith) ∙ first_below g n k l)
      | no p ↦ first_all f n (λ k l. h k l ∙ first_none g n k (omega arith) l) ∙ (let e : n ≡ first g n = omega (arith, first_le g n) in e)
    ]
