-- Legal orders that fire, in turn, what stands before a chosen node on token-free routes. Definitions only.
-- Assumes nothing.
use mathlib.Core.List.{List}
use Prim.Native.Nat.{ℕ, ◌≤◌, ◌<◌}
use Rattle.net.specs.Graph.{Graph, Marking, firings, Legal, TokenFree}

-- a legal order in which each node fires at most once, and only nodes with a token-free route to x
pub record Towards (G : Graph) (μ : Marking) (x : ℕ) (s : List ℕ) : Type 0 where
  pub legal : Legal G μ s
  pub once : (y : ℕ) → firings y s ≤ 1
  pub near : (y : ℕ) → 0 < firings y s → TokenFree G μ y x
