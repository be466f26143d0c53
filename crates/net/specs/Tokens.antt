-- Where the tokens are after a legal order: 000's Observation 1, and how far a node may get ahead of another.
-- Assumes nothing.
use Rattle.std.specs.Prelude.{◌≡◌, ℕ, ◌+◌, ◌≤◌, ◌<◌}
use Rattle.std.proofs.Math.Path.{refl, ap}
use mathlib.Core.List.{List, [], ◌∷◌}
use Rattle.std.proofs.Math.Logic.{inl, inr}
use native.Mathlib.Omega.{arith}
use Rattle.net.specs.Graph.{Graph, Marking, one_if_same, firings, tokens_on, Fireable, fire, after, Legal, Route}
use Rattle.net.specs.Counts.{same_or_not}

module _ (G : Graph) where
  -- a firing takes no more than there is
  taken : (μ : Marking) (n e : ℕ) → e < G.edges → Fireable G μ n → one_if_same (G.destination e) n ≤ μ e
  unfolding Fireable
  taken μ n e h f =
      elim (same_or_not (G.destination e) n) [
        | inl p ↦ omega (arith, f e h p.0)
        | inr p ↦ omega arith
      ]

  -- firing leaves a node's edge to itself as it is
  pub fire_self_loop : (μ : Marking) (n e : ℕ) → G.source e ≡ G.destination e → 0 < μ e → fire G n μ e ≡ μ e
  unfolding fire
  fire_self_loop μ n e p h =
      elim (same_or_not (G.destination e) n) [
        | inl q ↦ omega (arith, ap (λ x. one_if_same x n) p)
        | inr q ↦ omega (arith, ap (λ x. one_if_same x n) p)
      ]

  -- Observation 1(a): the tokens now and the firings of the end are the tokens before and the firings of the source
  pub tokens_now : (μ : Marking) (s : List ℕ) → Legal G μ s → (e : ℕ) → e < G.edges
      → after G μ s e + firings (G.destination e) s ≡ μ e + firings (G.source e) s
  unfolding after Legal firings fire
  tokens_now μ [] l e h = refl
  tokens_now μ (n ∷ s) l e h = omega (arith, tokens_now (fire G n μ) s l.2 e h, taken μ n e h l.1)

  module _ (μ : Marking) (s : List ℕ) (l : Legal G μ s) where
    -- the same along a route
    pub route_tokens_now : (es : List ℕ) (m n : ℕ) → Route G m es n → tokens_on (after G μ s) es + firings n s ≡ tokens_on μ es + firings m s
    unfolding Route tokens_on
    route_tokens_now [] m n r = omega (arith, ap (λ x. firings x s) r)
    route_tokens_now (e ∷ es) m n r =
        omega (arith, route_tokens_now es (G.destination e) n r.2, tokens_now μ s l e r.0, ap (λ x. firings x s) r.1)

    -- a cycle keeps its tokens
    pub cycle_keeps : (es : List ℕ) (m : ℕ) → Route G m es m → tokens_on (after G μ s) es ≡ tokens_on μ es
    cycle_keeps es m r = omega (arith, route_tokens_now es m m r)

    -- no node gets ahead of another by more than the tokens of a route
    pub lead : (es : List ℕ) (m n : ℕ) → Route G m es n → firings n s ≤ firings m s + tokens_on μ es
    lead es m n r = omega (arith, route_tokens_now es m n r)
