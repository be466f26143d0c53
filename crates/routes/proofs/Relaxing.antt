-- A sweep that leaves the sum of a row as it is leaves the row as it is.
-- The last part is the turn of a sweep's loop. Assumes nothing.
use Prim.Native.Nat.{ℕ, zero, suc, ◌+◌, ◌-◌, ◌<◌, ◌≤◌, min}
use Rattle.std.proofs.Common.{eq-or-lt_of_le, le_of_suc-le-suc, arith, sym, ◌∙◌}
use Rattle.std.proofs.Math.Decide.{ℕ_discrete}
use Rattle.std.specs.Prelude.{◌≡◌, refl, List, set}
use Rattle.std.proofs.Math.Path.{ap, subst}
use Rattle.std.proofs.Math.Logic.{⊎_elim}
use Rattle.std.proofs.Math.Seq.{set-get_or}
use Rattle.loops.specs.Choice.{at}
use Rattle.loops.specs.Sum.{sum, sum_same, sum_mono}
use Rattle.loops.specs.Fold.{fold, fold_more}
use Rattle.routes.specs.Rows.{total, lowered, relaxed, sweep}
use Rattle.routes.specs.Relaxing.{EndsInRow, Stable, relaxed_there, relaxed_elsewhere, relaxed_le, sweep_total_le, Relaxing}

-- two sums whose summands differ at one number
sum_change : (f g : ℕ → ℕ) (n k : ℕ) → k < n → ((j : ℕ) → (j ≡ k → ⊥) → f j ≡ g j) → sum f n + g k ≡ sum g n + f k
unfolding sum
sum_change f g zero k l h = absurd (omega arith)
sum_change f g (suc n) k l h =
    elim (ℕ_discrete k n) [
      | yes p ↦ omega (arith, sum_same f g n (λ j i. h j (λ q. omega arith)), ap f p, ap g p)
      | no p ↦ omega (arith, sum_change f g n k (omega arith) h, h n (λ q. p (sym q)))
    ]

module _ (source destination tokens : List ℕ) where
  -- `relaxed` and `lowered` with these tables
  abbrev relax : ℕ → List ℕ → List ℕ
  relax = relaxed source destination tokens

  abbrev low : ℕ → List ℕ → ℕ
  low = lowered source destination tokens

  module _ (e : ℕ) (row : List ℕ) where
    relaxed_total_le : total (relax e row) ≤ total row
    unfolding total
    relaxed_total_le = sum_mono (at (relax e row)) (at row) 64 (λ v l. relaxed_le source destination tokens e row v)

    -- the sum falls by as much as the destination's entry
    relaxed_total : at destination e < 64 → total (relax e row) + at row (at destination e) ≡ total row + at (relax e row) (at destination e)
    unfolding total
    relaxed_total h = sum_change (at (relax e row)) (at row) 64 (at destination e) h (relaxed_elsewhere source destination tokens e row)

    -- where the sum does not fall, nothing changes
    relaxed_kept : at destination e < 64 → total (relax e row) ≡ total row → relax e row ≡ row
    unfolding relaxed
    relaxed_kept h q =
        ap (set row (at destination e)) (let m : low e row ≡ at row (at destination e) = omega (arith, relaxed_there source destination tokens e row, relaxed_total h) in m)
        ∙ set-get_or row (at destination e) 0

  module _ (row : List ℕ) where
    fold_kept : (j : ℕ) → ((e : ℕ) → e < j → at destination e < 64) → total (fold relax row j) ≡ total row → (fold relax row j ≡ row) × Stable source destination tokens j row
    unfolding fold sweep
    fold_kept zero h q = (refl, λ e l. absurd (omega arith))
    fold_kept (suc j) h q =
        let t = fold_kept j (λ e l. h e (omega arith)) (omega (arith, relaxed_total_le j (fold relax row j), sweep_total_le source destination tokens row j)) in
        let p : total (relax j row) ≡ total row = ap (λ x. total (relax j x)) (sym t.0) ∙ q in
        let u : at row (at destination j) ≤ at row (at source j) + at tokens j = omega (arith, relaxed_there source destination tokens j row, relaxed_total j row (h j (omega arith))) in (
          ap (relax j) t.0 ∙ relaxed_kept j row (h j (omega arith)) p,
          λ e l.
              ⊎_elim (λ i. subst (λ k. at row (at destination k) ≤ at row (at source k) + at tokens k) (sym i) u) (t.1 e)
              (eq-or-lt_of_le (le_of_suc-le-suc l)),
        )

    -- a sweep that leaves the sum as it is changes nothing, and no edge can lower the row
    pub sweep_kept : (edges : ℕ) → EndsInRow source destination edges → total (sweep source destination tokens edges row) ≡ total row
        → (sweep source destination tokens edges row ≡ row) × Stable source destination tokens edges row
    unfolding sweep
    sweep_kept edges ends q = fold_kept edges ends.destination_lt q

module _ {source destination tokens : List ℕ} {edges : ℕ} {row : List ℕ} {e : ℕ} {out : List ℕ} {drop : ℕ}
    (inv : Relaxing source destination tokens edges row e out drop) where
  stored : {s d new : ℕ} → s ≡ at source e → d ≡ at destination e → new ≡ min (at out d) (at out s + at tokens e)
      → set out d new ≡ relaxed source destination tokens e out
  unfolding relaxed
  stored p q r = rw (r, p, q)

  -- the code's turn at edge e, whose ends are s and d
  pub relaxing_more : {s d new fall : ℕ} → EndsInRow source destination edges → e < edges → s ≡ at source e → d ≡ at destination e
      → new ≡ min (at out d) (at out s + at tokens e) → fall ≡ at out d - new → Relaxing source destination tokens edges row (e + 1) (set out d new) (drop + fall)
  relaxing_more {s} {d} {new} {fall} ends h p q r f =
      let next : set out d new ≡ relaxed source destination tokens e out = stored p q r in
      record {
        so_far = fold_more inv.so_far h next;
        fallen =
            omega (
              arith,
              ap total next,
              ap (at out) p,
              ap (at out) q,
              relaxed_there source destination tokens e out,
              relaxed_total source destination tokens e out (ends.destination_lt e h),
            );
        bound = λ v. omega (arith, inv.bound v, ap (λ x. at x v) next, relaxed_le source destination tokens e out v);
      }
