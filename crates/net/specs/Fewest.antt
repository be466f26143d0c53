-- Of the routes with fewer than k edges, one with the fewest tokens, or there is none: by induction over k, edge by edge.
-- Assumes nothing.
use Rattle.std.specs.Prelude.{◌≡◌, ◌⊎◌, length}
use Rattle.std.proofs.Math.Path.{refl, ap, subst}
use Rattle.std.proofs.Common.{sym}
use mathlib.Core.List.{List, [], ◌∷◌}
use Rattle.std.proofs.Math.Logic.{inl, inr, ⊎_elim}
use Prim.Native.Nat.{ℕ, zero, suc, ◌≤◌, ◌<◌}
use native.Mathlib.Omega.{arith}
use Rattle.std.proofs.Math.Decide.{ℕ_discrete, dec_le}
use Rattle.net.specs.Graph.{Graph, Marking, tokens_on, Route}

module _ (μ : Marking) where
  -- of the lists of edges of a kind, one with the fewest tokens, or there is none
  pub data Fewest (Kind : List ℕ → Type 0) : Type 0 where
    fewest : (es : List ℕ) → Kind es → ((fs : List ℕ) → Kind fs → tokens_on μ es ≤ tokens_on μ fs) → Fewest Kind
    nothing : ((es : List ℕ) → Kind es → ⊥) → Fewest Kind

module _ (μ : Marking) {Kind : List ℕ → Type 0} where
  -- of another kind, of which each has one of the first kind with no more tokens
  pub fewest_of : {Other : List ℕ → Type 0} → ((es : List ℕ) → Kind es → Other es)
      → ((es : List ℕ) → Other es → (fs : List ℕ) × Kind fs × (tokens_on μ fs ≤ tokens_on μ es)) → Fewest μ Kind → Fewest μ Other
  fewest_of f g (fewest es k l) = fewest es (f es k) (λ fs o. let t = g fs o in omega (arith, l t.0 t.1, t.2))
  fewest_of f g (nothing n) = nothing (λ es o. let t = g es o in n t.0 t.1)

  -- of two kinds
  fewest_either : {Other : List ℕ → Type 0} → Fewest μ Kind → Fewest μ Other → Fewest μ (λ es. Kind es ⊎ Other es)
  fewest_either (fewest es k l) (fewest fs o r) =
      elim (dec_le (tokens_on μ es) (tokens_on μ fs)) [
        | yes p ↦ fewest es (inl k) (λ gs. ⊎_elim (l gs) (λ q. omega (arith, r gs q)))
        | no p ↦ fewest fs (inr o) (λ gs. ⊎_elim (λ q. omega (arith, l gs q)) (r gs))
      ]
  fewest_either (fewest es k l) (nothing n) = fewest es (inl k) (λ gs. ⊎_elim (l gs) (λ q. absurd (n gs q)))
  fewest_either (nothing m) (fewest fs o r) = fewest fs (inr o) (λ gs. ⊎_elim (λ q. absurd (m gs q)) (r gs))
  fewest_either (nothing m) (nothing n) = nothing (λ es. ⊎_elim (m es) (n es))

  -- with one edge more in front
  fewest_behind : (e : ℕ) → Fewest μ Kind → Fewest μ (λ es. (fs : List ℕ) × (es ≡ e ∷ fs) × Kind fs)
  unfolding tokens_on
  fewest_behind e (fewest es k l) = fewest (e ∷ es) (es, refl, k) (λ fs t. omega (arith, l t.0 t.2, ap (tokens_on μ) t.1))
  fewest_behind e (nothing n) = nothing (λ es t. n t.0 t.2)

module _ (G : Graph) (n : ℕ) where
  -- a route from m to n with fewer than k edges
  abbrev pub Within : ℕ → ℕ → List ℕ → Type 0
  Within k m es = Route G m es n × (length es < k)

  -- a route from m to n that is empty, or starts with an edge below j and has fewer than k more
  data Starting (k m j : ℕ) : List ℕ → Type 0 where
    empty : m ≡ n → Starting k m j []
    start : (e : ℕ) (es : List ℕ) → e < j → G.source e ≡ m → Within k (G.destination e) es → Starting k m j (e ∷ es)

  module _ (k m j : ℕ) where
    widen : (es : List ℕ) → Starting k m j es → Starting k m (suc j) es
    widen es (empty p) = empty p
    widen es (start e fs l p w) = start e fs (omega arith) p w

    -- a first edge below j + 1 is below j or is j
    narrow : (es : List ℕ) → Starting k m (suc j) es → Starting k m j es ⊎ ((G.source j ≡ m) × ((fs : List ℕ) × (es ≡ j ∷ fs) × Within k (G.destination j) fs))
    narrow es (empty p) = inl (empty p)
    narrow es (start e fs l p w) =
        elim (ℕ_discrete e j) [
          | yes q ↦ inr (subst (λ x. G.source x ≡ m) q p, (fs, ap (◌∷ fs) q, subst (λ x. Within k (G.destination x) fs) q w))
          | no q ↦ inl (start e fs (omega arith) p w)
        ]

  module _ (μ : Marking) where
    starting : (k : ℕ) → ((m : ℕ) → Fewest μ (Within k m)) → (m j : ℕ) → Fewest μ (Starting k m j)
    unfolding tokens_on
    starting k f m zero =
        elim (ℕ_discrete m n) [
          | yes p ↦ fewest [] (empty p) (λ fs s. omega arith)
          | no p ↦ nothing (λ es s. none es s p)
        ]
      where
        none : (es : List ℕ) → Starting k m 0 es → (m ≡ n → ⊥) → ⊥
        none es (empty p) q = q p
        none es (start e fs l p w) q = omega arith
    starting k f m (suc j) =
        elim (ℕ_discrete (G.source j) m) [
          | yes p ↦
              fewest_of μ
              (λ es. ⊎_elim (widen k m j es) (λ t. subst (Starting k m (suc j)) (sym t.1) (start j t.0 (omega arith) p t.2)))
              (λ es s. ⊎_elim (λ t. (es, inl t, omega arith)) (λ t. (es, inr t.1, omega arith)) (narrow k m j es s))
              (fewest_either μ (starting k f m j) (fewest_behind μ j (f (G.destination j))))
          | no p ↦
              fewest_of μ (widen k m j) (λ es s. ⊎_elim (λ t. (es, t, omega arith)) (λ t. absurd (p t.0)) (narrow k m j es s)) (starting k f m j)
        ]

    within_starting : (k m : ℕ) (es : List ℕ) → Within (suc k) m es → Starting k m G.edges es
    unfolding Route
    within_starting k m [] w = empty w.0
    within_starting k m (e ∷ es) w = start e es w.0.0 w.0.1 (w.0.2, omega (arith, w.1))

    starting_within : (k m : ℕ) (es : List ℕ) → Starting k m G.edges es → Within (suc k) m es
    unfolding Route
    starting_within k m es (empty p) = (p, omega arith)
    starting_within k m es (start e fs l p w) = ((l, p, w.0), omega (arith, w.1))

    -- of the routes with fewer than k edges from m to n
    pub fewest_within : (k m : ℕ) → Fewest μ (Within k m)
    fewest_within zero m = nothing (λ es w. omega (arith, w.1))
    fewest_within (suc k) m =
        fewest_of μ (starting_within k m) (λ es w. (es, within_starting k m es w, omega arith)) (starting k (fewest_within k) m G.edges)
