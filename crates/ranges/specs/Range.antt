-- An entry of a list that is out of range, as the shape of a state tests it. Definitions only.
-- Assumes nothing.
use Rattle.std.specs.Prelude.{◌≡◌, List, Bool, ℕ, ◌<◌, ltb, leb}
use Rattle.loops.specs.Choice.{at, if}

-- an entry that is out of range: at or above its limit where it is known, not 0 past the count
unfoldable pub out_of_range : (ℕ → ℕ) → ℕ → List ℕ → ℕ → Bool
out_of_range limit count entries k = if (ltb k count) (leb (limit k) (at entries k)) (ltb 0 (at entries k))

-- what a closure answers of each of 64 places is what stands there in f
abbrev pub Gives : (ℕ → ℕ → Type 0) → (ℕ → ℕ) → Type 0
Gives post f = (k r : ℕ) → k < 64 → post k r → r ≡ f k
