-- What is worked out of a plan's tables and a state's rows, as lists; and what is asked of those. Definitions only.
-- Assumes nothing.
use Rattle.std.specs.Prelude.{List, ℕ, ◌+◌, ◌*◌, ◌≤◌, ◌<◌, eqb, ltb, leb, replicate}
use Rattle.loops.specs.Choice.{at, if, one_if}
use Rattle.loops.specs.Sum.{sum}
use Rattle.loops.specs.Row.{stored}
use Rattle.loops.specs.Table.{padded}
use Rattle.plan.specs.Value.{base}

-- ---- next nodes and edges to see
-- the next node of process p: where its position stands in the firing order
abbrev pub next_in : List ℕ → List ℕ → List ℕ → ℕ → ℕ
next_in order lengths positions p = at order (base lengths p + at positions p)

-- each stands in the order
pub record NextsOk (lengths positions : List ℕ) (processes : ℕ) : Type 0 where
  pub processes_most : processes ≤ 64
  pub stands : (p : ℕ) → p < processes → base lengths p + at positions p < 64

-- 1 where edge e is a synchronising in-edge of a node, else 0
unfoldable pub wanted : List ℕ → List ℕ → ℕ → ℕ → ℕ
wanted destination crossing node e = if (eqb (at destination e) node) (at crossing e) 0

-- ---- rows of marks
-- the most that the marks of process p's row may be
unfoldable pub allowed_row : List ℕ → List ℕ → List ℕ → List ℕ → ℕ → ℕ → ℕ → List ℕ
allowed_row opened nexts destination crossing processes edges p =
    if (leb processes p) (replicate 512 0) (if (ltb 0 (at opened p)) (padded (wanted destination crossing (at nexts p)) 512 edges) (replicate 512 0))

-- where the mark of edge e stands in process p's row: 64 rows of 512 marks as one list
abbrev pub spot : ℕ → ℕ → ℕ
spot p e = 512 * p + e

-- how many marks of process p's row are above what they may be
unfoldable pub row_above : (ℕ → ℕ) → List ℕ → ℕ → ℕ
row_above allowed marks p = sum (λ e. one_if (ltb (allowed e) (at marks (spot p e)))) 512

-- how many marks of all rows are above what they may be
unfoldable pub rows_above : List ℕ → List ℕ → List ℕ → List ℕ → List ℕ → ℕ → ℕ → ℕ
rows_above marks opened nexts destination crossing processes edges =
    sum (λ p. row_above (at (allowed_row opened nexts destination crossing processes edges p)) marks p) 64

-- how many marks process p's row has
abbrev pub row_left : List ℕ → ℕ → ℕ
row_left marks p = sum (λ e. at marks (spot p e)) 512

-- the marks with a row stored for process p
abbrev pub with_row : List ℕ → (ℕ → ℕ) → ℕ → ℕ → List ℕ
with_row marks row edges p = stored row (512 * p) marks edges
