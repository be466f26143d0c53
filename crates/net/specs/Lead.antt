-- How far a node may get ahead of another. Definitions only.
-- Assumes nothing.
use Rattle.std.specs.Prelude.{◌≡◌}
use mathlib.Core.List.{List}
use Prim.Native.Nat.{ℕ}
use Rattle.net.specs.Graph.{Graph, Marking, firings, Legal}

-- a legal order from μ in which n fires k times and m not at all
abbrev pub Ahead : Graph → Marking → ℕ → ℕ → ℕ → Type 0
Ahead G μ m n k = (s : List ℕ) × Legal G μ s × (firings m s ≡ 0) × (firings n s ≡ k)
