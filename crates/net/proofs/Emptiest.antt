-- The emptiest route: there is one or no route at all, and its tokens are one number.
-- Assumes nothing.
use Rattle.std.specs.Prelude.{◌≡◌, List, [], ◌⊎◌, ℕ, ◌≤◌, ◌<◌}
use Rattle.std.proofs.Math.Path.{refl}
use Rattle.std.proofs.Common.{inl, inr}
use native.Mathlib.Omega.{arith}
use Rattle.net.specs.Graph.{Graph, Marking, Shaped, tokens_on, Route, Emptiest, Linked}
use Rattle.net.specs.Shorten.{Shortened, shorten}
use Rattle.net.specs.Fewest.{Fewest, fewest, nothing, fewest_of, Within, fewest_within}

module _ (G : Graph) (μ : Marking) where
  -- the emptiest route's tokens are one number
  pub emptiest_unique : (m n d d' : ℕ) → Emptiest G μ m n d → Emptiest G μ m n d' → d ≡ d'
  emptiest_unique m n d d' a b =
      omega (arith, a.least b.some.0 b.some.1, b.least a.some.0 a.some.1, a.some.2, b.some.2)

  -- from a node to itself it is 0
  pub emptiest_self : (m : ℕ) → Emptiest G μ m m 0
  unfolding Route tokens_on
  emptiest_self m = record { some = ([], refl, refl); least = λ es r. omega arith }

  module _ (shaped : Shaped G) (m n : ℕ) (h : m < G.nodes) where
    -- there is an emptiest route, or none at all
    pub emptiest_or_none : ((d : ℕ) × Emptiest G μ m n d) ⊎ (Linked G m n → ⊥)
    emptiest_or_none = found (fewest_of μ (λ es w. w.0) (λ es r. short es (shorten G shaped μ m n h es r)) (fewest_within G n μ G.nodes m))
      where
        short : (es : List ℕ) → Shortened G shaped μ m n es → (fs : List ℕ) × Within G n G.nodes m fs × (tokens_on μ fs ≤ tokens_on μ es)
        short es s = (s.edges, (s.route, s.few), s.no_more)

        found : Fewest μ (λ es. Route G m es n) → ((d : ℕ) × Emptiest G μ m n d) ⊎ (Linked G m n → ⊥)
        found (fewest es r l) = inl (tokens_on μ es, record { some = (es, r, refl); least = l })
        found (nothing f) = inr (λ t. f t.0 t.1)

-- whether there is a route is decided
pub linked_decided : (G : Graph) → Shaped G → (m n : ℕ) → m < G.nodes → Dec (Linked G m n)
linked_decided G shaped m n h =
    elim (emptiest_or_none G G.tokens shaped m n h) [
      | inl t ↦ yes (t.1.some.0, t.1.some.1)
      | inr f ↦ no f
    ]
