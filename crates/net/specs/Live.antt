-- What has to fire for a chosen node to fire; a legal order leaves a token on every cycle.
-- Assumes nothing.
use Rattle.std.specs.Prelude.{◌≡◌, ◌≢◌, ℕ, ◌≤◌, ◌<◌}
use Rattle.std.proofs.Common.{inl, inr, arith}
use mathlib.Core.List.{List, [], ◌∷◌, ◌++◌}
use Rattle.net.specs.Graph.{Graph, Marking, Shaped, firings, after, Legal, TokenFree, EveryCycleHolds}
use Rattle.net.specs.Counts.{same_or_not, one_if_same_self, firings_snoc}
use Rattle.net.specs.Tokens.{cycle_keeps, lead}

-- t fires x: exactly the nodes with a token-free route to x fire, each once, and x last (the empty route leads from x to x)
pub record FiredBy (G : Graph) (μ : Marking) (x : ℕ) (t : List ℕ) : Type 0 where
  pub legal : Legal G μ t
  pub once : (y : ℕ) → firings y t ≤ 1
  pub near : (y : ℕ) → 0 < firings y t → TokenFree G μ y x
  pub all : (y : ℕ) → TokenFree G μ y x → firings y t ≡ 1
  pub done : firings x t ≡ 1
  pub last : (u : List ℕ) × (t ≡ u ++ (x ∷ []))

module _ (G : Graph) (μ : Marking) where
  -- each other node with a token-free route to x fires before x can
  pub must_fire_before : (x y : ℕ) → TokenFree G μ y x → y ≢ x → (s : List ℕ) → Legal G μ (s ++ (x ∷ [])) → 0 < firings y s
  must_fire_before x y free d s l =
      elim (same_or_not y x) [
        | inl p ↦ absurd (d p.0)
        | inr p ↦
            omega (arith, lead G μ (s ++ (x ∷ [])) l free.0 y x free.1, free.2, firings_snoc x x s, firings_snoc y x s, one_if_same_self x)
      ]

module _ (G : Graph) (μ : Marking) (shaped : Shaped G) (holds : EveryCycleHolds G μ) (s : List ℕ) (l : Legal G μ s) where
  -- a legal order leaves a token on every cycle
  pub holds_after : EveryCycleHolds G (after G μ s)
  unfolding EveryCycleHolds
  holds_after v es c = omega (arith, holds v es c, cycle_keeps G μ s l es v c.0)
