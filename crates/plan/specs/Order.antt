-- Tests in an order: the first number of a list that applies, and within it the lowest place. Definitions only.
-- Assumes nothing.
use Rattle.std.specs.Prelude.{◌≡◌, List, [], ◌∷◌, ◌⊎◌, ℕ, ◌<◌}

-- a number's test passes: its fault is at no place
abbrev pub Passes : (ℕ → Type 0) → Type 0
Passes Fault = (place : ℕ) → Fault place → ⊥

-- a number, and at which places its fault stands
abbrev pub Numbered : Type 1
Numbered = ℕ × (ℕ → Type 0)

-- the fault stands at `place` and at no lower one: "within it the lowest place"
unfoldable pub LowestPlace : (ℕ → Type 0) → ℕ → Type 0
LowestPlace Fault place = Fault place × ((p : ℕ) → p < place → Fault p → ⊥)

-- "The lowest number that applies is given; within it the lowest place.": the first number of the list that applies, whose order is that of the
-- tests; the numbers need not rise
unfoldable pub FirstFault : List Numbered → ℕ → ℕ → Type 0
FirstFault [] number place = ⊥
FirstFault (f ∷ fs) number place = ((number ≡ f.0) × LowestPlace f.1 place) ⊎ (Passes f.1 × FirstFault fs number place)

-- none of them applies
unfoldable pub NoneOf : List Numbered → Type 0
NoneOf [] = Unit {0}
NoneOf (f ∷ fs) = Passes f.1 × NoneOf fs
