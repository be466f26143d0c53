-- Each public promise of the rows leaves room for one answer: a sweep's row is given, and by how much its sum fell is then one number.
-- Assumes nothing.
use Rattle.std.specs.Prelude.{◌≡◌, List, ℕ, ◌+◌}
use Rattle.std.proofs.Common.{sym, ap, ap₂, ◌∙◌, arith}
use Rattle.routes.specs.Rows.{total, sweep, emptiest_row}

-- the row that a sweep leaves, and by how much the sum of its entries has fallen
pub record Sweep : Type 0 where
  pub row : List ℕ
  pub drop : ℕ

module _ (source destination tokens : List ℕ) (edges : ℕ) where
  -- what `relax_sweep` promises of its answer r for a row
  abbrev Promised : List ℕ → Sweep → Type 0
  Promised row r = (r.row ≡ sweep source destination tokens edges row) × (r.drop + total r.row ≡ total row)

  pub sweep_unique : (row : List ℕ) (r r' : Sweep) → Promised row r → Promised row r' → r ≡ r'
  sweep_unique row r r' p q =
      let same : r.row ≡ r'.row = p.0 ∙ sym q.0 in
      let fell : r.drop ≡ r'.drop = omega (arith, p.1, q.1, ap total same) in
      ap₂ (λ x d. record { row = x; drop = d }) same fell

  -- and `emptiest_row`
  pub emptiest_row_unique : (from : ℕ) {r r' : List ℕ} → r ≡ emptiest_row source destination tokens edges from
      → r' ≡ emptiest_row source destination tokens edges from → r ≡ r'
  emptiest_row_unique from p q = p ∙ sym q
