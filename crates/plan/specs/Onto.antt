-- A list of n different numbers below n has them all.
-- Assumes nothing.
use Rattle.std.specs.Prelude.{ℕ, zero, suc, ◌<◌, ◌≡◌, ◌≢◌, eqb}
use Rattle.std.proofs.Common.{sym, ◌∙◌, arith, eq-eqb, ne_eqb}
use Rattle.std.proofs.Math.Decide.{ℕ_discrete}
use Rattle.loops.specs.Choice.{if, if_true, if_false}

-- f is below n at the numbers below n, and differs at different ones
pub record Once (f : ℕ → ℕ) (n : ℕ) : Type 0 where
  pub small : (i : ℕ) → i < n → f i < n
  pub apart : (i j : ℕ) → i < n → j < n → f i ≡ f j → i ≡ j

-- so it is not the case that f misses a number below n
pub onto : (n : ℕ) (f : ℕ → ℕ) → Once f n → (v : ℕ) → v < n → ((i : ℕ) → i < n → f i ≢ v) → ⊥
onto zero f o v h miss = omega arith
onto (suc n) f o v h miss =
    onto n g (record { small = λ i l. low i (omega arith); apart = λ i j l m. same i j (omega arith) (omega arith) }) (g n) (low n (omega arith))
    (λ i l e. let z : i ≡ n = same i n (omega arith) (omega arith) e in omega arith)
  where
    -- f with v in the place of n, which leaves n out
    g : ℕ → ℕ
    g i = if (eqb (f i) n) v (f i)

    hit : (i : ℕ) → f i ≡ n → g i ≡ v
    hit i e = if_true (eqb (f i) n) v (f i) (eq-eqb (f i) n e)

    other : (i : ℕ) → f i ≢ n → g i ≡ f i
    other i e = if_false (eqb (f i) n) v (f i) (ne_eqb (f i) n e)

    low : (i : ℕ) → i < suc n → g i < n
    low i l =
        elim (ℕ_discrete (f i) n) [
          | yes e ↦ let d : v ≢ n = λ q. miss i l (e ∙ sym q) in omega (arith, hit i e)
          | no e ↦ omega (arith, other i e, o.small i l)
        ]

    same : (i j : ℕ) → i < suc n → j < suc n → g i ≡ g j → i ≡ j
    same i j l m q =
        elim (ℕ_discrete (f i) n) [
          | yes e ↦
              elim (ℕ_discrete (f j) n) [
                | yes d ↦ o.apart i j l m (e ∙ sym d)
                | no d ↦ absurd (miss j m (sym (other j d) ∙ sym q ∙ hit i e))
              ]
          | no e ↦
              elim (ℕ_discrete (f j) n) [
                | yes d ↦ absurd (miss i l (sym (other i e) ∙ q ∙ hit j d))
                | no d ↦ o.apart i j l m (sym (other i e) ∙ q ∙ other j d)
              ]
        ]
