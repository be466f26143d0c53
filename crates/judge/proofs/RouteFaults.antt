-- Tests 13 to 16 are faults 13 to 16, and C0 and C4 are that there are none.
-- Assumes nothing.
use Rattle.std.specs.Prelude.{◌≡◌, ◌↔◌, eqb}
use Rattle.std.proofs.Math.Path.{refl, sym, ap, subst}
use Rattle.std.proofs.Common.{◌∙◌, not-suc-le-zero}
use mathlib.Core.List.{List, [], ◌∷◌, ◌++◌}
use Rattle.std.proofs.Math.Bool.{true, not}
use Prim.Native.Nat.{ℕ, ◌+◌, ◌*◌, ◌/◌, ◌%◌, ◌≤◌, ◌<◌}
use native.Mathlib.Omega.{arith}
use Rattle.std.proofs.Math.Decide.{ℕ_discrete, dec_lt}
use Rattle.std.proofs.Math.Nat.{div-add-mod, mul-mod_right}
use Rattle.std.proofs.Math.ListN.{length, length-append}
use borrow.Author.Tests.{eq-eqb, ne_eqb, eqb-true, eqb-false, leb-true, le-leb}
use Rattle.loops.specs.Choice.{at, both_true, both_intro, not_is_true}
use Rattle.loops.specs.Any.{any_some, any_from}
use Rattle.net.specs.Graph.{Graph, Shaped, Route, Linked, EveryCycleHolds, tokens_on}
use Rattle.net.specs.Append.{tokens_on_append, route_append}
use Rattle.net.specs.Tables.{graph_of_tables}
use Rattle.plan.specs.declared.Plan.{Plan}
use Rattle.plan.specs.Value.{graph_of, Synchronising, counter_sum, edge_sum}
use Rattle.routes.specs.Rows.{no_route, emptiest_row}
use Rattle.routes.proofs.Emptiest.{row_some, row_emptiest, row_small, row_is}
use Rattle.plan.specs.Tables.{Tabled}
use Rattle.plan.specs.Formed.{shaped}
use Rattle.judge.specs.Conditions.{RouteBack, C0, Multiple, Exceeds, C4}
use Rattle.judge.specs.Faults.{Fault13, Fault14, Fault15, Fault16}
use Rattle.cycles.specs.Lent.{loop_sum_in, closes_free_in, on_free_cycle_in, no_way_back_in, not_above_in}
use Rattle.judge.specs.Tests.{loop_sum, sum_table, on_free_cycle, no_way_back, not_multiple, not_above_bound}
use Rattle.judge.specs.Lent.{crosses_exactly, sum_at}
use Rattle.judge.specs.RouteFaults.{Ending}

ending : (G : Graph) (e : ℕ) (es : List ℕ) (m n : ℕ) → Route G m (e ∷ es) n → Ending G m n (e ∷ es)
unfolding Route
ending G e [] m n r = record { front = []; edge = e; whole = refl; before = sym r.1; known = r.0; there = r.2 }
ending G e (f ∷ es) m n r =
    let t : Ending G (G.destination e) n (f ∷ es) = ending G f es (G.destination e) n r.2 in
    record { front = e ∷ t.front; edge = t.edge; whole = ap (e ∷◌) t.whole; before = (r.0, r.1, t.before); known = t.known; there = t.there }

module _ (pl : Plan) (t : Tabled pl) where
  -- the entry of the row from an edge's end at its source
  abbrev back : ℕ → ℕ
  back e = at (emptiest_row pl.source pl.destination pl.tokens pl.edges (at pl.destination e)) (at pl.source e)

  source_lt : (e : ℕ) → e < pl.edges → at pl.source e < pl.nodes
  unfolding graph_of graph_of_tables
  source_lt e l = t.source_lt e l

  destination_lt : (e : ℕ) → e < pl.edges → at pl.destination e < pl.nodes
  unfolding graph_of graph_of_tables
  destination_lt e l = t.destination_lt e l

  shaped_tables : Shaped (graph_of_tables pl.nodes pl.edges pl.source pl.destination pl.tokens)
  unfolding graph_of
  shaped_tables = shaped pl t

  -- it is below `no_route` exactly where a route leads back
  back_some : (e : ℕ) → e < pl.edges → (back e < no_route) ↔ Linked (graph_of pl) (at pl.destination e) (at pl.source e)
  unfolding graph_of
  back_some e l =
      row_some pl.nodes pl.edges pl.source pl.destination pl.tokens (at pl.destination e) t.counts.nodes_most shaped_tables t.tokens_most
      (destination_lt e l) (at pl.source e) (source_lt e l)

  -- and is then the tokens of the emptiest
  back_emptiest : (e : ℕ) → e < pl.edges → back e < no_route → RouteBack pl e (back e)
  unfolding graph_of RouteBack
  back_emptiest e l h =
      row_emptiest pl.nodes pl.edges pl.source pl.destination pl.tokens (at pl.destination e) t.counts.nodes_most shaped_tables t.tokens_most
      (destination_lt e l) (at pl.source e) (source_lt e l) h

  back_small : (e : ℕ) → e < pl.edges → back e < no_route → back e ≤ 63000
  back_small e l h =
      row_small pl.nodes pl.edges pl.source pl.destination pl.tokens (at pl.destination e) t.counts.nodes_most shaped_tables t.tokens_most
      (destination_lt e l) (at pl.source e) (source_lt e l) h

  -- the tokens on the emptiest route back stand in the row
  back_is : (e d : ℕ) → e < pl.edges → RouteBack pl e d → back e ≡ d
  unfolding graph_of RouteBack
  back_is e d l a =
      row_is pl.nodes pl.edges pl.source pl.destination pl.tokens (at pl.destination e) t.counts.nodes_most shaped_tables t.tokens_most
      (destination_lt e l) (at pl.source e) d (source_lt e l) a

  -- a route of at least one edge starts at a node
  first_node : (e : ℕ) (es : List ℕ) (v : ℕ) → Route (graph_of pl) v (e ∷ es) v → v < pl.nodes
  unfolding Route graph_of graph_of_tables
  first_node e es v r = omega (arith, r.1, t.source_lt e r.0)

  loop_is : (e : ℕ) → loop_sum pl e ≡ at pl.tokens e + back e
  unfolding loop_sum_in
  loop_is e = refl

  pub test_13 : (v : ℕ) → ((v < pl.nodes) × (on_free_cycle pl v ≡ true)) ↔ Fault13 pl v
  unfolding on_free_cycle_in Fault13 closes_free_in graph_of graph_of_tables RouteBack Route tokens_on
  test_13 v = (to, from)
    where
      to : (v < pl.nodes) × (on_free_cycle pl v ≡ true) → Fault13 pl v
      to h =
          let s = any_some (closes_free_in pl.destination (sum_table pl) v) pl.edges h.1 in
          let e : ℕ = s.0 in
          let b = both_true _ _ s.2 in
          let z : loop_sum pl e ≡ 0 = sym (sum_at pl t e s.1) ∙ eqb-true _ _ b.1 in
          let i : at pl.destination e ≡ v = eqb-true _ _ b.0 in
          let k = back_emptiest e s.1 (omega (arith, loop_is e)) in
          let r = k.some in
          let r₂ = subst (λ x. Route (graph_of pl) x r.0 (at pl.source e)) i r.1 in (
            h.0,
            (
              r.0 ++ (e ∷ []),
              (route_append (graph_of pl) r.0 (e ∷ []) v (at pl.source e) v r₂ (s.1, refl, i), omega (arith, length-append r.0 (e ∷ []))),
              omega (arith, tokens_on_append (at pl.tokens) r.0 (e ∷ []), r.2, loop_is e),
            ),
          )

      from : Fault13 pl v → (v < pl.nodes) × (on_free_cycle pl v ≡ true)
      from f = (f.0, go f.1.0 f.1.1.0 f.1.1.1 f.1.2)
        where
          go : (es : List ℕ) → Route (graph_of pl) v es v → 0 < length es → tokens_on (at pl.tokens) es ≡ 0 → on_free_cycle pl v ≡ true
          go [] r l z = absurd (not-suc-le-zero l)
          go (f ∷ fs) r l z =
              let parted : Ending (graph_of pl) v v (f ∷ fs) = ending (graph_of pl) f fs v v r in
              let e : ℕ = parted.edge in
              let q = ap (tokens_on (at pl.tokens)) parted.whole in
              let q₂ = tokens_on_append (at pl.tokens) parted.front (e ∷ []) in
              let q₃ : tokens_on (at pl.tokens) (e ∷ []) ≡ at pl.tokens e = omega arith in
              let front : Route (graph_of pl) (at pl.destination e) parted.front (at pl.source e) =
              subst (λ x. Route (graph_of pl) x parted.front (at pl.source e)) (sym parted.there) parted.before in
              let k = back_emptiest e parted.known ((back_some e parted.known).1 (parted.front, front)) in
              let low = k.least parted.front front in
              let free : loop_sum pl e ≡ 0 = omega (arith, loop_is e, low, z, q, q₂, q₃) in
              any_from (closes_free_in pl.destination (sum_table pl) v) pl.edges e parted.known
              (both_intro _ _ (eq-eqb _ _ parted.there) (eq-eqb (at (sum_table pl) e) 0 (sum_at pl t e parted.known ∙ free)))

  -- an edge's loop is at or above `no_route` exactly where no route leads back
  far_loop : (e : ℕ) → e < pl.edges → (no_route ≤ loop_sum pl e) ↔ (Linked (graph_of pl) (at pl.destination e) (at pl.source e) → ⊥)
  far_loop e l = (
    λ h k. let s = (back_some e l).1 k in omega (arith, loop_is e, back_small e l s, t.tokens_most e l),
    λ f.
        elim (dec_lt (back e) no_route) [
          | yes p ↦ absurd (f ((back_some e l).0 p))
          | no p ↦ omega (arith, loop_is e)
        ],
  )

  pub test_14 : (e : ℕ) → ((e < pl.edges) × (no_way_back pl e ≡ true)) ↔ Fault14 pl e
  unfolding no_way_back_in Fault14
  test_14 e = (to, from)
    where
      to : (e < pl.edges) × (no_way_back pl e ≡ true) → Fault14 pl e
      to h =
          let b = both_true _ _ h.1 in
          let far : no_route ≤ loop_sum pl e = omega (arith, leb-true no_route (at (sum_table pl) e) b.0, sum_at pl t e h.0) in
          ((crosses_exactly pl t e h.0).0 b.1, (far_loop e h.0).0 far)

      from : Fault14 pl e → (e < pl.edges) × (no_way_back pl e ≡ true)
      from f =
          let l = f.0.known in
          let far : no_route ≤ at (sum_table pl) e = omega (arith, (far_loop e l).1 f.1, sum_at pl t e l) in
          (l, both_intro _ _ (le-leb no_route (at (sum_table pl) e) far) ((crosses_exactly pl t e l).1 f.0))

  -- where no synchronising edge is without a route back, each has an emptiest one, and the loop is that with the edge's tokens
  pub loops_known : ((e : ℕ) → Fault14 pl e → ⊥) → (e : ℕ) → Synchronising pl e → (d : ℕ) × RouteBack pl e d × (loop_sum pl e ≡ at pl.tokens e + d)
  unfolding Fault14
  loops_known none e y =
      elim (dec_lt (back e) no_route) [
        | yes p ↦ (back e, back_emptiest e y.known p, loop_is e)
        | no p ↦ absurd (none e (y, λ k. omega (arith, (back_some e y.known).1 k)))
      ]

  -- the loop of an edge with a known emptiest route back
  pub loop_known : (e d : ℕ) → e < pl.edges → RouteBack pl e d → loop_sum pl e ≡ at pl.tokens e + d
  loop_known e d l a = omega (arith, loop_is e, back_is e d l a)

  pub test_15 : 1 ≤ counter_sum pl 0 → (p : ℕ) → ((p ≡ 0) × (not_multiple pl ≡ true)) ↔ Fault15 pl p
  unfolding Fault15 Multiple
  test_15 h p = (λ k. (k.0, to k.1), λ k. (k.0, from k.1))
    where
      to : not (eqb (pl.modulus % counter_sum pl 0) 0) ≡ true → ((m : ℕ) × (pl.modulus ≡ counter_sum pl 0 * m)) → ⊥
      to k m = eqb-false _ _ (not_is_true _ k) (ap (◌% counter_sum pl 0) m.1 ∙ mul-mod_right (counter_sum pl 0) m.0)

      from : (((m : ℕ) × (pl.modulus ≡ counter_sum pl 0 * m)) → ⊥) → not (eqb (pl.modulus % counter_sum pl 0) 0) ≡ true
      from f = ap not (ne_eqb (pl.modulus % counter_sum pl 0) 0 (λ z. f (pl.modulus / counter_sum pl 0, omega (arith, div-add-mod pl.modulus (counter_sum pl 0), z))))

  -- where N passes 15 it is a multiple of Q
  pub multiple_passes : 1 ≤ counter_sum pl 0 → ((p : ℕ) → Fault15 pl p → ⊥) → Multiple pl pl.modulus
  unfolding Fault15 Multiple
  multiple_passes h none =
      elim (ℕ_discrete (pl.modulus % counter_sum pl 0) 0) [
        | yes z ↦ (pl.modulus / counter_sum pl 0, omega (arith, div-add-mod pl.modulus (counter_sum pl 0), z))
        | no z ↦ absurd (none 0 (refl, λ m. z (ap (◌% counter_sum pl 0) m.1 ∙ mul-mod_right (counter_sum pl 0) m.0)))
      ]

  pub test_16 : ((e : ℕ) → Fault14 pl e → ⊥) → (e : ℕ) → ((e < pl.edges) × (not_above_bound pl e ≡ true)) ↔ Fault16 pl e
  unfolding not_above_in Fault16
  test_16 none e = (to, from)
    where
      to : (e < pl.edges) × (not_above_bound pl e ≡ true) → Fault16 pl e
      to h =
          let b = both_true _ _ h.1 in
          let y = (crosses_exactly pl t e h.0).0 b.0 in
          let k = loops_known none e y in
          (y, (k.0, k.1, subst (λ x. pl.modulus ≤ edge_sum pl e * x) (sum_at pl t e h.0 ∙ k.2) (leb-true _ _ b.1)))

      from : Fault16 pl e → (e < pl.edges) × (not_above_bound pl e ≡ true)
      from f =
          let y = f.0 in
          let same = sum_at pl t e y.known ∙ loop_known e f.1.0 y.known f.1.1 in
          (y.known, both_intro _ _ ((crosses_exactly pl t e y.known).1 y) (le-leb _ _ (subst (λ x. pl.modulus ≤ edge_sum pl e * x) (sym same) f.1.2)))

  pub c0_passes : ((v : ℕ) → Fault13 pl v → ⊥) → C0 pl
  unfolding C0 Fault13 EveryCycleHolds
  c0_passes none v es c =
      elim (dec_lt 0 (tokens_on (graph_of pl).tokens es)) [
        | yes p ↦ p
        | no p ↦ absurd (none v (on_graph es c.0 c.1, (es, c, omega arith)))
      ]
    where
      on_graph : (es : List ℕ) → Route (graph_of pl) v es v → 0 < length es → v < pl.nodes
      on_graph [] r l = absurd (not-suc-le-zero l)
      on_graph (e ∷ es) r l = first_node e es v r

  pub c0_clean : C0 pl → (v : ℕ) → Fault13 pl v → ⊥
  unfolding C0 Fault13 EveryCycleHolds
  c0_clean h v f = omega (arith, h v f.1.0 f.1.1, f.1.2)

  -- C4 from the faults 14 to 16, and back
  pub c4_passes : 1 ≤ counter_sum pl 0 → ((e : ℕ) → Fault14 pl e → ⊥) → ((p : ℕ) → Fault15 pl p → ⊥) → ((e : ℕ) → Fault16 pl e → ⊥) → C4 pl
  unfolding C4 Exceeds Fault16
  c4_passes h none_14 none_15 none_16 = (
    multiple_passes h none_15,
    λ e y.
        let k = loops_known none_14 e y in (
          k.0,
          k.1,
          elim (dec_lt (edge_sum pl e * (at pl.tokens e + k.0)) pl.modulus) [
            | yes p ↦ p
            | no p ↦ absurd (none_16 e (y, (k.0, k.1, omega arith)))
          ],
        ),
  )

  pub fault_14_clean : Exceeds pl pl.modulus → (e : ℕ) → Fault14 pl e → ⊥
  unfolding Exceeds Fault14 RouteBack
  fault_14_clean h e f = let k = h e f.0 in f.1 (k.1.some.0, k.1.some.1)

  pub fault_15_clean : Multiple pl pl.modulus → (p : ℕ) → Fault15 pl p → ⊥
  unfolding Fault15
  fault_15_clean h p f = f.1 h

  pub fault_16_clean : Exceeds pl pl.modulus → (e : ℕ) → Fault16 pl e → ⊥
  unfolding Exceeds Fault16
  fault_16_clean h e f =
      let k = h e f.0 in
      let l = f.0.known in
      omega (
        arith,
        k.2,
        f.1.2,
        ap (edge_sum pl e *◌) (sym (loop_known e k.0 l k.1) ∙ loop_known e f.1.0 l f.1.1),
      )
