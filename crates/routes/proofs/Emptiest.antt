-- The row's entries are the tokens of the emptiest routes, and `no_route` stands where there is none.
-- Assumes nothing.
use Rattle.std.specs.Prelude.{ℕ, ◌+◌, ◌-◌, ◌<◌, ◌≤◌, ◌≡◌, ◌⊎◌, ◌↔◌}
use Rattle.std.proofs.Math.Decide.{ℕ_discrete, dec_lt}
use Rattle.std.proofs.Math.Nat.{mul-le-mul_left}
use Rattle.std.proofs.Common.{arith, ◌∙◌}
use Rattle.std.proofs.Math.Path.{refl, sym, ap}
use mathlib.Core.List.{List, [], ◌∷◌, ◌++◌}
use Rattle.std.proofs.Math.Logic.{inl, inr}
use Rattle.loops.specs.Choice.{at}
use Rattle.loops.specs.Fold.{fold_keeps}
use Rattle.net.specs.Graph.{Graph, Shaped, tokens_on, Route, Emptiest, Linked}
use Rattle.net.specs.Tables.{graph_of_tables}
use Rattle.net.specs.Append.{tokens_on_append, route_append}
use Rattle.net.proofs.Shorten.{emptiest_bound}
use Rattle.net.proofs.Emptiest.{emptiest_or_none, emptiest_unique}
use Rattle.routes.specs.Rows.{no_route, start, relaxed, sweep, emptiest_row}
use Rattle.routes.specs.Relaxing.{EndsInRow, Stable, relaxed_there, relaxed_elsewhere, relaxed_le}
use Rattle.routes.specs.Settling.{start_from, start_elsewhere, row_keeps, row_most}
use Rattle.routes.proofs.Settling.{row_stable}

module _ (nodes edges : ℕ) (source destination tokens : List ℕ) where
  -- the tables' graph
  abbrev G : Graph
  G = graph_of_tables nodes edges source destination tokens

  -- in a graph of at most 64 nodes both ends of every edge have an entry
  pub ends_in_row : nodes ≤ 64 → Shaped G → EndsInRow source destination edges
  unfolding graph_of_tables
  ends_in_row few shaped =
      record {
        source_lt = λ e h. omega (arith, shaped.source_lt e h);
        destination_lt = λ e h. omega (arith, shaped.destination_lt e h);
      }

  -- along a route a row that no edge can lower rises by at most the route's tokens
  stable_le : (row : List ℕ) → Stable source destination tokens edges row → (es : List ℕ) (u v : ℕ) → Route G u es v
      → at row v ≤ at row u + tokens_on G.tokens es
  unfolding Route tokens_on graph_of_tables
  stable_le row stable [] u v r = omega (arith, ap (at row) r)
  stable_le row stable (e ∷ es) u v r = omega (arith, stable_le row stable es (at destination e) v r.2, stable e r.0, ap (at row) r.1)

  module _ (from : ℕ) where
    -- a row on its way: 0 at `from`, and each entry below `no_route` is the tokens of a route
    record Sound (row : List ℕ) : Type 0 where
      here : at row from ≡ 0
      met : (v : ℕ) → v < 64 → at row v < no_route → (es : List ℕ) × Route G from es v × (tokens_on G.tokens es ≡ at row v)

    start_sound : from < 64 → Sound (start from)
    unfolding Route tokens_on
    start_sound h =
        record {
          here = start_from from h;
          met = λ v l b.
              elim (ℕ_discrete v from) [
                | yes p ↦ ([], sym p, sym (ap (at (start from)) p ∙ start_from from h))
                | no p ↦ absurd (omega (arith, start_elsewhere from v l p))
              ];
        }

    module _ (ends : EndsInRow source destination edges) where
      relaxed_sound : (e : ℕ) (row : List ℕ) → e < edges → Sound row → Sound (relaxed source destination tokens e row)
      unfolding Route tokens_on graph_of_tables
      relaxed_sound e row h a =
          record {
            here = omega (arith, relaxed_le source destination tokens e row from);
            met = λ v l b.
                elim (ℕ_discrete v (at destination e)) [
                  | no p ↦
                      let q = relaxed_elsewhere source destination tokens e row v p in
                      let t = a.met v l (omega arith) in
                      (t.0, t.1, t.2 ∙ sym q)
                  | yes p ↦
                      let q = relaxed_there source destination tokens e row in
                      let there = ap (at (relaxed source destination tokens e row)) p in
                      let before = ap (at row) p in
                      elim (dec_lt (at row (at source e) + at tokens e) (at row (at destination e))) [
                        | yes z ↦
                            let t = a.met (at source e) (ends.source_lt e h) (omega arith) in (
                              t.0 ++ (e ∷ []),
                              route_append G t.0 (e ∷ []) from (at source e) v t.1 (h, refl, sym p),
                              omega (arith, tokens_on_append (at tokens) t.0 (e ∷ [])),
                            )
                        | no z ↦ let t = a.met v l (omega arith) in (t.0, t.1, omega arith)
                      ]
                ];
          }

      sweep_sound : (row : List ℕ) → Sound row → Sound (sweep source destination tokens edges row)
      unfolding sweep
      sweep_sound row a = fold_keeps Sound (relaxed source destination tokens) row edges a (λ e x h. relaxed_sound e x h)

    -- the tables are a graph's of at most 64 nodes, with at most 1,000 tokens an edge
    module _ (few : nodes ≤ 64) (shaped : Shaped G) (light : (e : ℕ) → e < edges → at tokens e ≤ 1000) (inside : from < nodes) where
      abbrev row : List ℕ
      row = emptiest_row source destination tokens edges from

      row_sound : Sound row
      row_sound = row_keeps source destination tokens edges Sound (sweep_sound (ends_in_row few shaped)) from (start_sound (omega arith))

      -- no entry is above the tokens of a route
      row_le : (es : List ℕ) (v : ℕ) → Route G from es v → at row v ≤ tokens_on G.tokens es
      row_le es v r = omega (arith, stable_le row (row_stable source destination tokens edges (ends_in_row few shaped) from (omega arith)) es from v r, row_sound.here)

      emptiest_le : (v d : ℕ) → Emptiest G G.tokens from v d → d ≤ 63000
      unfolding graph_of_tables
      emptiest_le v d a =
          omega (arith, emptiest_bound G (at tokens) shaped 1000 light from v d inside a, mul-le-mul_left {m = nodes - 1} {n = 63} 1000 (omega arith))

      -- an entry of the row is the emptiest route's tokens, or `no_route` where there is no route
      pub rows_are_emptiest : (v : ℕ) → v < nodes
          → ((at row v < no_route) × Emptiest G G.tokens from v (at row v)) ⊎ ((at row v ≡ no_route) × (Linked G from v → ⊥))
      unfolding graph_of_tables
      rows_are_emptiest v h =
          elim (dec_lt (at row v) no_route) [
            | yes p ↦ inl (p, record { some = row_sound.met v (omega arith) p; least = λ es r. row_le es v r })
            | no p ↦
                inr (
                  omega (arith, row_most source destination tokens edges from v (omega arith)),
                  λ linked.
                      elim (emptiest_or_none G G.tokens shaped from v inside) [
                        | inl t ↦ omega (arith, row_le t.1.some.0 v t.1.some.1, emptiest_le v t.0 t.1)
                        | inr f ↦ f linked
                      ],
                )
          ]

      -- an entry is below `no_route` exactly where there is a route
      pub row_some : (v : ℕ) → v < nodes → (at row v < no_route) ↔ Linked G from v
      row_some v h =
          elim (rows_are_emptiest v h) [
            | inl t ↦ (λ p. (t.1.some.0, t.1.some.1), λ linked. t.0)
            | inr t ↦ (λ p. absurd (omega arith), λ linked. absurd (t.1 linked))
          ]

      -- and is then the emptiest route's tokens
      pub row_emptiest : (v : ℕ) → v < nodes → at row v < no_route → Emptiest G G.tokens from v (at row v)
      row_emptiest v h p =
          elim (rows_are_emptiest v h) [
            | inl t ↦ t.1
            | inr t ↦ absurd (omega arith)
          ]

      -- at most 63,000
      pub row_small : (v : ℕ) → v < nodes → at row v < no_route → at row v ≤ 63000
      row_small v h p = emptiest_le v (at row v) (row_emptiest v h p)

      -- the emptiest route's tokens stand in the row
      pub row_is : (v x : ℕ) → v < nodes → Emptiest G G.tokens from v x → at row v ≡ x
      row_is v x h a =
          emptiest_unique G G.tokens from v (at row v) x (row_emptiest v h ((row_some v h).1 (a.some.0, a.some.1))) a
