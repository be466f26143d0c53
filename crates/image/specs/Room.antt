-- What reading the tables needs of an image. Definitions only.
-- Assumes nothing.
use Rattle.std.specs.Prelude.{◌≡◌, List, ℕ, ◌+◌, ◌*◌, ◌≤◌, ◌<◌, length}
use Rattle.image.specs.Image.{nodes_in, processes_in, edges_in, total_in}

-- n numbers of two bytes, one every `step` bytes from `start` on, lie within the image
abbrev pub Room : List ℕ → ℕ → ℕ → ℕ → Type 0
Room s start step n = (k : ℕ) → k < n → start + step * k + 1 < length s

-- the counts fit the tables of a plan value, and the image is as long as its counts say
pub record Laid (s : List ℕ) : Type 0 where
  pub nodes_most : nodes_in s ≤ 64
  pub processes_most : processes_in s ≤ 64
  pub edges_most : edges_in s ≤ 512
  pub length_is : length s ≡ total_in s
  pub header : 36 ≤ length s
