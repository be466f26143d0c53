-- What relaxing does to a row: entries only fall.
-- The last part is what a sweep's loop needs. Assumes nothing.
use Prim.Native.Nat.{ℕ, ◌+◌, ◌-◌, ◌<◌, ◌≤◌}
use Rattle.std.proofs.Common.{arith, Fits}
use Rattle.std.proofs.Math.Decide.{ℕ_discrete, dec_lt}
use Rattle.std.specs.Prelude.{◌≡◌, List, length, set}
use Rattle.std.proofs.Math.Path.{ap}
use Rattle.std.specs.Int.{w32}
use Rattle.std.proofs.Math.ListN.{get_or-eq_default}
use Rattle.std.proofs.Math.Seq.{get_or-set_same, get_or-set_other, set_out}
use Rattle.loops.specs.Choice.{at}
use Rattle.loops.specs.Sum.{sum_le, sum_mono}
use Rattle.loops.specs.Fold.{fold, Fold, fold_begin, fold_over, fold_keeps}
use Rattle.routes.specs.Rows.{no_route, total, lowered, relaxed, sweep}

-- no entry is above `no_route`
abbrev pub Low : List ℕ → Type 0
Low row = (v : ℕ) → at row v ≤ no_route

-- both ends of every edge have an entry in the row
pub record EndsInRow (source destination : List ℕ) (edges : ℕ) : Type 0 where
  pub source_lt : (e : ℕ) → e < edges → at source e < 64
  pub destination_lt : (e : ℕ) → e < edges → at destination e < 64

-- a row stays so where no higher number is entered
pub set_low : (row : List ℕ) (d lower : ℕ) → Low row → lower ≤ no_route → Low (set row d lower)
set_low row d lower h l v =
    elim (ℕ_discrete v d) [
      | yes p ↦
          elim (dec_lt d (length row)) [
            | yes q ↦ omega (arith, ap (λ j. at (set row d lower) j) p, get_or-set_same row d lower 0 q)
            | no q ↦ omega (arith, ap (λ x. at x v) (set_out row d lower (omega arith)), h v)
          ]
      | no p ↦ omega (arith, get_or-set_other row d v lower 0 p, h v)
    ]

module _ (source destination tokens : List ℕ) where
  -- no edge below `edges` can lower an entry
  abbrev pub Stable : ℕ → List ℕ → Type 0
  Stable edges row = (e : ℕ) → e < edges → at row (at destination e) ≤ at row (at source e) + at tokens e

  -- `relaxed` and `lowered` with these tables
  abbrev relax : ℕ → List ℕ → List ℕ
  relax = relaxed source destination tokens

  abbrev low : ℕ → List ℕ → ℕ
  low = lowered source destination tokens

  module _ (e : ℕ) (row : List ℕ) where
    -- an edge lowers its destination's entry
    pub relaxed_there : at (relax e row) (at destination e) ≡ low e row
    unfolding relaxed
    relaxed_there =
        elim (dec_lt (at destination e) (length row)) [
          | yes p ↦ get_or-set_same row (at destination e) (low e row) 0 p
          | no p ↦
              let z : at row (at destination e) ≡ 0 = get_or-eq_default row 0 (omega arith) in
              omega (arith, ap (λ l. at l (at destination e)) (set_out row (at destination e) (low e row) (omega arith)))
        ]

    -- and no other
    pub relaxed_elsewhere : (v : ℕ) → (v ≡ at destination e → ⊥) → at (relax e row) v ≡ at row v
    unfolding relaxed
    relaxed_elsewhere v h = get_or-set_other row (at destination e) v (low e row) 0 h

    pub relaxed_le : (v : ℕ) → at (relax e row) v ≤ at row v
    relaxed_le v =
        elim (ℕ_discrete v (at destination e)) [
          | yes p ↦ omega (arith, relaxed_there, ap (at (relax e row)) p, ap (at row) p)
          | no p ↦ omega (arith, relaxed_elsewhere v p)
        ]

  module _ (row : List ℕ) where
    fold_le : (j v : ℕ) → at (fold relax row j) v ≤ at row v
    fold_le j v = fold_keeps (λ x. at x v ≤ at row v) relax row j (omega arith) (λ k x l p. omega (arith, relaxed_le k x v))

    fold_total_le : (j : ℕ) → total (fold relax row j) ≤ total row
    unfolding total
    fold_total_le j = sum_mono (at (fold relax row j)) (at row) 64 (λ v l. fold_le j v)

    -- a sweep raises no entry
    pub sweep_le : (edges v : ℕ) → at (sweep source destination tokens edges row) v ≤ at row v
    unfolding sweep
    sweep_le edges v = fold_le edges v

    pub sweep_total_le : (edges : ℕ) → total (sweep source destination tokens edges row) ≤ total row
    unfolding sweep
    sweep_total_le edges = fold_total_le edges

-- a sweep's loop at edge e: the row so far, by how much its sum has fallen, and its entries' bound
pub record Relaxing (source destination tokens : List ℕ) (edges : ℕ) (row : List ℕ) (e : ℕ) (out : List ℕ) (drop : ℕ) : Type 0 where
  pub so_far : Fold (relaxed source destination tokens) row edges e out
  pub fallen : drop + total out ≡ total row
  pub bound : Low out

pub relaxing_begin : (source destination tokens : List ℕ) (edges : ℕ) (row : List ℕ) → Low row → Relaxing source destination tokens edges row 0 row 0
relaxing_begin source destination tokens edges row h =
    record { so_far = fold_begin (relaxed source destination tokens) row edges; fallen = omega arith; bound = h }

module _ {source destination tokens : List ℕ} {edges : ℕ} {row : List ℕ} {e : ℕ} {out : List ℕ} {drop : ℕ}
    (inv : Relaxing source destination tokens edges row e out drop) where
  pub relaxing_over : edges ≤ e → out ≡ sweep source destination tokens edges row
  unfolding sweep
  relaxing_over h = fold_over inv.so_far h

  pub relaxing_low : (v : ℕ) → at out v ≤ no_route
  relaxing_low v = inv.bound v

  -- what the sum falls by fits 32 bits
  pub relaxing_fits : (v new : ℕ) → Low row → Fits w32 (drop + (at out v - new))
  unfolding total
  relaxing_fits v new h = record { fits = omega (arith, inv.bound v, sum_le (at row) no_route h 64) }

module _ (source destination : List ℕ) (edges e : ℕ) (ends : EndsInRow source destination edges) (h : e < edges) where
  pub source_in_row : (s : ℕ) → s ≡ at source e → s < 64
  source_in_row s p = omega (arith, ends.source_lt e h)

  pub destination_in_row : (d : ℕ) → d ≡ at destination e → d < 64
  destination_in_row d p = omega (arith, ends.destination_lt e h)

-- what answers an index into the row
pub ruleset indices = (source_in_row, destination_in_row)
