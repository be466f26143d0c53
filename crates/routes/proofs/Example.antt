-- Plan P's row from node 2, computed.
-- Assumes nothing.
use Rattle.std.specs.Prelude.{ℕ, ◌≡◌, refl, List, [], ◌∷◌}
use Rattle.loops.specs.Choice.{at, if}
use Rattle.loops.specs.Sum.{sum}
use Rattle.loops.specs.Fold.{fold}
use Rattle.routes.specs.Rows.{no_route, total, start, relaxed, sweep, settled, emptiest_row}

abbrev row_P : List ℕ
row_P = emptiest_row (0 ∷ 1 ∷ 1 ∷ 2 ∷ 3 ∷ 3 ∷ []) (1 ∷ 0 ∷ 2 ∷ 3 ∷ 0 ∷ 2 ∷ []) (0 ∷ 1 ∷ 0 ∷ 0 ∷ 3 ∷ 1 ∷ []) 6 2

pub row_of_P : (at row_P 0 ≡ 3) × (at row_P 1 ≡ 3) × (at row_P 2 ≡ 0) × (at row_P 3 ≡ 0) × (at row_P 4 ≡ no_route)
unfolding total start relaxed sweep settled emptiest_row fold sum if
row_of_P = (refl, refl, refl, refl, refl)
