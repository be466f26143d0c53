-- The faults of 01's table, "Numbers a plan can be turned down with", for an image, in 01's words. Definitions only.
-- Assumes nothing.
use Rattle.std.specs.Prelude.{◌≡◌, List, ◌∷◌, ◌⊎◌, ◌≢◌, ℕ, ◌<◌, length}
use Rattle.plan.specs.Faults.{Fault3}
use Rattle.plan.specs.Order.{Numbered}
use Rattle.judge.specs.Faults.{order_from_5}
use Rattle.numerals.specs.LittleEndian.{two_bytes}
use Rattle.image.specs.Image.{plan_of, OffsetsFit}

module _ (s : List ℕ) where
  -- 1: "fewer than 36 bytes", place 0
  unfoldable pub Fault1 : ℕ → Type 0
  Fault1 place = (place ≡ 0) × (length s < 36)

  -- 2: "format not 1, or bytes 10 and 11 not zero", place 0
  unfoldable pub Fault2 : ℕ → Type 0
  Fault2 place = (place ≡ 0) × ((two_bytes s 0 ≢ 1) ⊎ (two_bytes s 10 ≢ 0))

  -- 4: "an offset or the total differs from the value the counts give, or the image has another length", place 0
  unfoldable pub Fault4 : ℕ → Type 0
  Fault4 place = (place ≡ 0) × (OffsetsFit s → ⊥)

  -- 01's table in the order of its tests: the image's own, and then the plan value's
  unfoldable pub image_order : List Numbered
  image_order = (1, Fault1) ∷ (2, Fault2) ∷ (3, Fault3 (plan_of s)) ∷ (4, Fault4) ∷ order_from_5 (plan_of s)
