-- Is a test true somewhere: what such a loop computes, its invariant, and what its answer tells.
-- `search (rules, anys)` answers such a loop's goals. Assumes nothing.
use Rattle.std.specs.Prelude.{ℕ, zero, suc, ◌+◌, ◌-◌, ◌<◌, ◌≤◌, ◌≡◌, refl, Bool, true, false}
use Rattle.std.proofs.Common.{eq-or-lt_of_le, add-one, arith, sym, ap, ◌∙◌, ⊎_elim}
use Rattle.loops.specs.Choice.{if, true_false, not_true}
use Rattle.loops.specs.First.{left_step}
unfoldable pub use Rattle.loops.specs.Values.{any_of, any}

-- the invariant at i
pub record Any (f : ℕ → Bool) (n i : ℕ) : Type 0 where
  pub within : i ≤ n
  pub rest : any f n ≡ any_of f i (n - i)

pub any_begin : (f : ℕ → Bool) (n : ℕ) → Any f n 0
unfolding any
any_begin f n = let e : n - 0 ≡ n = omega arith in record { within = omega arith; rest = rw e }

pub any_hit : {f : ℕ → Bool} {n i : ℕ} → Any f n i → i < n → f i ≡ true → true ≡ any f n
unfolding any_of if
any_hit {f} {n} {i} inv h e = sym (inv.rest ∙ rw (left_step n i, e))

pub any_miss : {f : ℕ → Bool} {n i : ℕ} → Any f n i → i < n → f i ≡ false → Any f n (i + 1)
unfolding any_of if
any_miss {f} {n} {i} inv h e = record { within = omega arith; rest = inv.rest ∙ rw (left_step n i, e, add-one) }

pub any_over : {f : ℕ → Bool} {n i : ℕ} → Any f n i → n ≤ i → false ≡ any f n
unfolding any_of if
any_over {f} {n} {i} inv h = let z : n - i ≡ 0 = omega arith in sym (inv.rest ∙ rw z)

pub ruleset anys = (any_begin, any_hit, any_miss, any_over)

anyOf_some : (f : ℕ → Bool) (i m : ℕ) → any_of f i m ≡ true → (k : ℕ) × (i ≤ k) × (k < i + m) × (f k ≡ true)
unfolding any_of if
anyOf_some f i zero e = absurd (true_false (sym e))
anyOf_some f i (suc m) e = by_test (f i) refl (anyOf_some f (suc i) m) e
  where
    by_test : (b : Bool) → f i ≡ b → (any_of f (suc i) m ≡ true → (k : ℕ) × (suc i ≤ k) × (k < suc i + m) × (f k ≡ true))
        → if b true (any_of f (suc i) m) ≡ true → (k : ℕ) × (i ≤ k) × (k < i + suc m) × (f k ≡ true)
    by_test true q next r = (i, omega arith, omega arith, q)
    by_test false q next r = let t = next r in (t.0, omega (arith, t.1), omega (arith, t.2), t.3)

anyOf_from : (f : ℕ → Bool) (i m k : ℕ) → i ≤ k → k < i + m → f k ≡ true → any_of f i m ≡ true
unfolding any_of if
anyOf_from f i zero k l h e = absurd (omega arith)
anyOf_from f i (suc m) k l h e = by_test (f i) refl (λ p. anyOf_from f (suc i) m k p (omega arith) e)
  where
    by_test : (b : Bool) → f i ≡ b → (i < k → any_of f (suc i) m ≡ true) → if b true (any_of f (suc i) m) ≡ true
    by_test true q next = refl
    by_test false q next = ⊎_elim (λ p. absurd (true_false (sym e ∙ ap f (sym p) ∙ q))) next (eq-or-lt_of_le l)

module _ (f : ℕ → Bool) (n : ℕ) where
  -- a place where the test is true
  pub any_some : any f n ≡ true → (k : ℕ) × (k < n) × (f k ≡ true)
  unfolding any
  any_some e = let t = anyOf_some f 0 n e in (t.0, omega (arith, t.2), t.3)

  pub any_from : (k : ℕ) → k < n → f k ≡ true → any f n ≡ true
  unfolding any
  any_from k h e = anyOf_from f 0 n k (omega arith) (omega arith) e

  -- nowhere: the test is false at each number
  pub any_none : (k : ℕ) → any f n ≡ false → k < n → f k ≡ false
  any_none k e h = not_true (f k) (λ t. true_false (sym (any_from k h t) ∙ e))

  pub any_all : ((k : ℕ) → k < n → f k ≡ false) → any f n ≡ false
  any_all g = not_true (any f n) (λ t. let s = any_some t in true_false (sym s.2 ∙ g s.0 s.1))

-- only the answers of the test matter
pub any_same : (f g : ℕ → Bool) (n : ℕ) → ((k : ℕ) → k < n → f k ≡ g k) → any f n ≡ any g n
any_same f g n h = go (any g n) refl
  where
    go : (b : Bool) → any g n ≡ b → any f n ≡ b
    go true e = let s = any_some g n e in any_from f n s.0 s.1 (h s.0 s.1 ∙ s.2)
    go false e = any_all f n (λ k l. h k l ∙ any_none g n k e l)
