-- Every route has one with fewer edges than there are nodes and no more tokens.
-- Assumes nothing.
use Rattle.std.proofs.Common.{ap, arith, length-append}
use Rattle.std.specs.Prelude.{List, ◌∷◌, ◌++◌, ℕ, zero, suc, ◌+◌, ◌≤◌, ◌<◌, length}
use Rattle.std.proofs.Math.Logic.{inl, inr}
use Rattle.std.proofs.Math.Decide.{dec_lt}
use Rattle.net.specs.Graph.{Graph, Marking, Shaped, tokens_on, Route}
use Rattle.net.specs.Counts.{Below, twice_or_once, once_few}
use Rattle.net.specs.Append.{tokens_on_append, route_append}
use Rattle.net.specs.Looped.{stops, stops_length, stops_below, Looped, looped}

module _ (G : Graph) (shaped : Shaped G) where
  -- a route of at least as many edges as there are nodes goes round a cycle
  pub long_looped : (es : List ℕ) (m n : ℕ) → m < G.nodes → Route G m es n → G.nodes ≤ length es → Looped G m n es
  unfolding Below
  long_looped es m n h r l =
      elim (twice_or_once (m ∷ stops G es)) [
        | inl t ↦ looped G t.0 es m n r t.1
        | inr f ↦ absurd (omega (arith, once_few G.nodes (m ∷ stops G es) (h, stops_below G shaped es m n r) f, stops_length G es))
      ]

  -- a route from m to n with fewer edges than there are nodes, and no more tokens than another
  pub record Shortened (μ : Marking) (m n : ℕ) (es : List ℕ) : Type 0 where
    pub edges : List ℕ
    pub route : Route G m edges n
    pub few : length edges < G.nodes
    pub no_more : tokens_on μ edges ≤ tokens_on μ es

  module _ (μ : Marking) (m n : ℕ) (h : m < G.nodes) where
    shorten_by : (k : ℕ) (es : List ℕ) → Route G m es n → length es < G.nodes + k → Shortened μ m n es
    shorten_by zero es r l = record { edges = es; route = r; few = omega arith; no_more = omega arith }
    shorten_by (suc k) es r l =
        elim (dec_lt (length es) G.nodes) [
          | yes p ↦ record { edges = es; route = r; few = p; no_more = omega arith }
          | no p ↦
              let t : Looped G m n es = long_looped es m n h r (omega arith) in
              let count = simp length-append at (ap length t.whole) in
              let tokens = simp tokens_on_append at (ap (tokens_on μ) t.whole) in
              let rest = t.front ++ t.back in
              let s : Shortened μ m n rest = shorten_by k rest (route_append G t.front t.back m t.at n t.before t.behind)
              (omega (arith, length-append t.front t.back, t.round.1)) in
              record { edges = s.edges; route = s.route; few = s.few; no_more = omega (arith, tokens_on_append μ t.front t.back) }
        ]

    -- every route can be so shortened
    pub shorten : (es : List ℕ) → Route G m es n → Shortened μ m n es
    shorten es r = shorten_by (suc (length es)) es r (omega arith)
