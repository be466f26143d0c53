-- How often a number stands in a list of firings, and lists without repeats.
-- Assumes nothing.
use Rattle.std.specs.Prelude.{◌≡◌, refl, List, [], ◌∷◌, ◌++◌, ◌⊎◌, ◌≢◌, ℕ, zero, suc, ◌+◌, ◌≤◌, ◌<◌, length}
use Rattle.std.proofs.Common.{sym, ap, inl, inr, arith, eq-eqb, ne_eqb}
use Rattle.std.proofs.Math.Decide.{ℕ_discrete, dec_lt}
use Rattle.loops.specs.Choice.{if, one_if}
use Rattle.loops.specs.Sum.{sum, sum_le, sum_mono}
use Rattle.net.specs.Graph.{one_if_same, firings}

-- the two numbers are the same and it is 1, or they are not and it is 0
pub same_or_not : (a b : ℕ) → ((a ≡ b) × (one_if_same a b ≡ 1)) ⊎ ((a ≢ b) × (one_if_same a b ≡ 0))
unfolding one_if_same one_if if
same_or_not a b =
    elim (ℕ_discrete a b) [
      | yes p ↦ inl (p, rw (eq-eqb a b p))
      | no p ↦ inr (p, rw (ne_eqb a b p))
    ]

-- a number is the same as itself
pub one_if_same_self : (a : ℕ) → one_if_same a a ≡ 1
unfolding one_if_same one_if if
one_if_same_self a = rw (eq-eqb a a refl)

-- the firings in two orders, one after the other
pub firings_append : (n : ℕ) (s t : List ℕ) → firings n (s ++ t) ≡ firings n s + firings n t
unfolding firings
firings_append n [] t = omega arith
firings_append n (m ∷ s) t = omega (arith, firings_append n s t)

-- one firing more
pub firings_snoc : (n m : ℕ) (s : List ℕ) → firings n (s ++ (m ∷ [])) ≡ firings n s + one_if_same n m
unfolding firings
firings_snoc n m s = omega (arith, firings_append n s (m ∷ []))

-- an order in which n fires, cut behind its first firing
pub firings_first : (n : ℕ) (s : List ℕ) → 0 < firings n s → (t u : List ℕ) × (s ≡ (t ++ (n ∷ [])) ++ u)
unfolding firings
firings_first n [] h = absurd (omega arith)
firings_first n (m ∷ s) h =
    elim (same_or_not n m) [
      | inl p ↦ ([], s, ap (◌∷ s) (sym p.0))
      | inr p ↦ let r = firings_first n s (omega arith) in (m ∷ r.0, r.1, ap (m ∷◌) r.2)
    ]

-- some number stands twice in a list, or each at most once
pub twice_or_once : (s : List ℕ) → ((n : ℕ) × (2 ≤ firings n s)) ⊎ ((n : ℕ) → firings n s ≤ 1)
unfolding firings
twice_or_once [] = inr (λ n. omega arith)
twice_or_once (m ∷ s) =
    elim (twice_or_once s) [
      | inl t ↦ inl (t.0, omega (arith, t.1))
      | inr f ↦
          elim (dec_lt 0 (firings m s)) [
            | yes p ↦ inl (m, omega (arith, one_if_same_self m))
            | no p ↦
                inr (λ n.
                elim (same_or_not n m) [
                  | inl q ↦ omega (arith, ap (λ x. firings x s) q.0)
                  | inr q ↦ omega (arith, f n)
                ])
          ]
    ]

-- one more at a place: a greater sum
sum_one_more : (f : ℕ → ℕ) (n m : ℕ) → m < n → suc (sum f n) ≤ sum (λ v. one_if_same v m + f v) n
unfolding sum
sum_one_more f zero m h = absurd (omega arith)
sum_one_more f (suc n) m h =
    elim (ℕ_discrete n m) [
      | yes p ↦ omega (arith, sum_mono f (λ v. one_if_same v m + f v) n (λ v l. omega arith), one_if_same_self m, ap (λ v. one_if_same v m) p)
      | no p ↦ omega (arith, sum_one_more f n m (omega arith))
    ]

-- every number of a list is below n
unfoldable pub Below : ℕ → List ℕ → Type 0
Below n [] = Unit {0}
Below n (m ∷ s) = (m < n) × Below n s

length_sum : (n : ℕ) (s : List ℕ) → Below n s → length s ≤ sum (λ v. firings v s) n
unfolding firings Below
length_sum n [] b = omega arith
length_sum n (m ∷ s) b = omega (arith, length_sum n s b.1, sum_one_more (λ v. firings v s) n m b.0)

-- a list of numbers below n without repeats has at most n of them
pub once_few : (n : ℕ) (s : List ℕ) → Below n s → ((m : ℕ) → firings m s ≤ 1) → length s ≤ n
once_few n s b f = omega (arith, length_sum n s b, sum_le (λ v. firings v s) 1 f n)
