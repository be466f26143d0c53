-- The layout of a plan image (01, "The plan image"): what tests 1 to 8 ask. Definitions only.
-- Assumes nothing.
use Rattle.std.specs.Prelude.{◌≡◌, List, ℕ, ◌≤◌, length}
use Rattle.plan.specs.Tables.{Tabled}
use Rattle.numerals.specs.LittleEndian.{two_bytes}
use Rattle.image.specs.Image.{plan_of, OffsetsFit}

pub record Layout (s : List ℕ) : Type 0 where
  -- "The header has 36 bytes: format number 1 at 0, … zero at 10"
  pub header : 36 ≤ length s
  pub format_one : two_bytes s 0 ≡ 1
  pub zero : two_bytes s 10 ≡ 0
  -- "The tables follow the header in that order without gaps"
  pub offsets : OffsetsFit s
  -- "Bounds: …", and what each table holds
  pub tables : Tabled (plan_of s)
