-- The least modulus is the smallest number that passes 15 and 16; it is Q where no edge synchronises.
-- Assumes nothing.
use Rattle.std.specs.Prelude.{◌≡◌, refl, false, eqb}
use Rattle.std.proofs.Math.Path.{ap}
use Rattle.std.proofs.Common.{◌∙◌}
use Rattle.std.proofs.Math.Logic.{inl, inr}
use Prim.Native.Nat.{ℕ, zero, suc, ◌+◌, ◌*◌, ◌≤◌, ◌<◌, max}
use native.Mathlib.Omega.{arith}
use Rattle.std.proofs.Math.Decide.{ℕ_discrete, dec_lt}
use Rattle.std.proofs.Math.Nat.{mul-le-mul_left, mul-one}
use Rattle.loops.specs.Choice.{at, if_true, if_false, true_or_false, not_true}
use Rattle.loops.specs.Fold.{fold}
use Rattle.plan.specs.declared.Plan.{Plan}
use Rattle.plan.specs.Value.{Synchronising, counter_sum, edge_sum}
use Rattle.plan.specs.Tables.{Tabled}
use Rattle.judge.specs.Conditions.{Multiple, Exceeds, LeastModulus}
use Rattle.judge.specs.Faults.{Fault14}
use Rattle.seats.specs.Crossing.{crossing_table}
use Rattle.cycles.specs.Lent.{asks_in, most_asked}
use Rattle.judge.specs.Tests.{loop_sum, sum_table, least_modulus}
use Rattle.judge.specs.Lent.{crosses_exactly, sum_at}
use Rattle.judge.proofs.RouteFaults.{loops_known, loop_known}

-- the greatest of 1 and what f is below n
abbrev greatest : (ℕ → ℕ) → ℕ → ℕ
greatest f n = fold (λ e m. max m (f e)) 1 n

greatest_some : (f : ℕ → ℕ) (n : ℕ) → 1 ≤ greatest f n
unfolding fold
greatest_some f zero = omega arith
greatest_some f (suc n) = omega (arith, greatest_some f n)

greatest_at : (f : ℕ → ℕ) (n e : ℕ) → e < n → f e ≤ greatest f n
unfolding fold
greatest_at f zero e l = absurd (omega arith)
greatest_at f (suc n) e l =
    elim (ℕ_discrete e n) [
      | yes p ↦ omega (arith, ap f p)
      | no p ↦ omega (arith, greatest_at f n e (omega arith))
    ]

greatest_le : (f : ℕ → ℕ) (m n : ℕ) → 1 ≤ m → ((e : ℕ) → e < n → f e ≤ m) → greatest f n ≤ m
unfolding fold
greatest_le f m zero h g = h
greatest_le f m (suc n) h g = omega (arith, greatest_le f m n h (λ e l. g e (omega arith)), g n (omega arith))

module _ (pl : Plan) (t : Tabled pl) (some : 1 ≤ counter_sum pl 0) (none : (e : ℕ) → Fault14 pl e → ⊥) where
  -- what edge e asks of the modulus, in sums of Q
  abbrev asks : ℕ → ℕ
  asks = asks_in (crossing_table pl) (sum_table pl)

  -- what a synchronising edge asks is more than its loop
  asks_loop : (e : ℕ) → Synchronising pl e → asks e ≡ suc (loop_sum pl e)
  unfolding asks_in
  asks_loop e y = if_true _ _ _ ((crosses_exactly pl t e y.known).1 y) ∙ ap suc (sum_at pl t e y.known)

  -- another edge asks 1
  asks_one : (e : ℕ) → eqb (at (crossing_table pl) e) 1 ≡ false → asks e ≡ 1
  unfolding asks_in
  asks_one e s = if_false _ _ _ s

  -- a multiple that is not 0 is not the 0-fold
  positive : (k m : ℕ) → 1 ≤ k → k ≡ counter_sum pl 0 * m → 1 ≤ m
  positive k m h q = elim (dec_lt 0 m) [ yes p ↦ p | no p ↦ absurd (omega (arith, ap (counter_sum pl 0 *◌) (let z : m ≡ 0 = omega arith in z))) ]

  -- a multiple of Q that exceeds every bound is at least what every edge asks, times Q
  asks_le : (k m : ℕ) → 1 ≤ k → k ≡ counter_sum pl 0 * m → Exceeds pl k → (e : ℕ) → e < pl.edges → asks e ≤ m
  unfolding Exceeds edge_sum
  asks_le k m h q x e l =
      elim (true_or_false (eqb (at (crossing_table pl) e) 1)) [
        | inr s ↦ omega (arith, asks_one e s, positive k m h q)
        | inl s ↦
            let y = (crosses_exactly pl t e l).0 s in
            let b = x e y in
            let below : loop_sum pl e < m =
            elim (dec_lt (loop_sum pl e) m) [
              | yes p ↦ p
              | no p ↦ absurd (omega (arith, b.2, ap (counter_sum pl 0 *◌) (loop_known pl t e b.0 l b.1), mul-le-mul_left {m = m} {n = loop_sum pl e} (counter_sum pl 0) (omega arith)))
            ] in
            omega (arith, asks_loop e y)
      ]

  pub least_is_least : LeastModulus pl (least_modulus pl)
  unfolding least_modulus most_asked Multiple Exceeds edge_sum
  least_is_least =
      let m : ℕ = greatest asks pl.edges in
      record {
        some = omega (arith, mul-le-mul_left {m = 1} {n = m} (counter_sum pl 0) (greatest_some asks pl.edges));
        multiple = (m, refl);
        exceeds = λ e y.
            let k = loops_known pl t none e y in
            let below : suc (at pl.tokens e + k.0) ≤ m = omega (arith, greatest_at asks pl.edges e y.known, asks_loop e y, k.2) in
            (k.0, k.1, omega (arith, mul-le-mul_left {m = suc (at pl.tokens e + k.0)} {n = m} (counter_sum pl 0) below));
        least = λ n h q x.
            omega (
              arith,
              q.1,
              mul-le-mul_left {m = m} {n = q.0} (counter_sum pl 0)
                  (greatest_le asks q.0 pl.edges (positive n q.0 h q.1) (asks_le n q.0 h q.1 x)),
            );
      }

  -- "Q where no edge synchronises"
  pub least_alone : ((e : ℕ) → Synchronising pl e → ⊥) → least_modulus pl ≡ counter_sum pl 0
  unfolding least_modulus most_asked
  least_alone f =
      let m : ℕ = greatest asks pl.edges in
      let le : m ≤ 1 =
      greatest_le asks 1 pl.edges (omega arith) (λ e l. omega (arith, asks_one e (not_true _ (λ s. f e ((crosses_exactly pl t e l).0 s))))) in
      ap (counter_sum pl 0 *◌) (let z : m ≡ 1 = omega (arith, greatest_some asks pl.edges) in z) ∙ mul-one (counter_sum pl 0)
