-- A route parted before its last edge. Definitions only.
-- Assumes nothing.
use Rattle.std.specs.Prelude.{◌≡◌}
use mathlib.Core.List.{List, [], ◌∷◌, ◌++◌}
use Prim.Native.Nat.{ℕ, ◌<◌}
use Rattle.net.specs.Graph.{Graph, Route}

-- a route of at least one edge, parted before its last
pub record Ending (G : Graph) (m n : ℕ) (es : List ℕ) : Type 0 where
  pub front : List ℕ
  pub edge : ℕ
  pub whole : es ≡ front ++ (edge ∷ [])
  pub before : Route G m front (G.source edge)
  pub known : edge < G.edges
  pub there : G.destination edge ≡ n
