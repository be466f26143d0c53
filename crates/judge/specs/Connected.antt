-- In an accepted plan every weakly connected part is strongly connected (000 asks for a strongly connected graph; 01 allows parts).
-- Assumes nothing.
use Rattle.std.specs.Prelude.{◌≡◌}
use Rattle.std.proofs.Math.Path.{refl, ap}
use Rattle.std.proofs.Common.{sym, ◌∙◌, arith}
use mathlib.Core.List.{[], ◌∷◌, ◌++◌}
use Prim.Native.Nat.{ℕ, ◌-◌, ◌<◌}
use Rattle.std.proofs.Math.Decide.{ℕ_discrete, dec_le}
use Rattle.loops.specs.Choice.{at}
use Rattle.net.specs.Graph.{Graph, Route, Linked}
use Rattle.net.specs.Append.{route_append}
use Rattle.net.specs.Processes.{Seats}
use Rattle.net.specs.Seating.{seats_of}
use Rattle.net.specs.ProcessEdges.{ride}
use Rattle.net.specs.Tables.{graph_of_tables}
use Rattle.plan.specs.declared.Plan.{Plan}
use Rattle.plan.specs.Value.{graph_of, node_at, HasProcesses, InProcess}
use Rattle.plan.specs.Tables.{Tabled}
use Rattle.judge.specs.Conditions.{RouteBack, Exceeds, C4}
use Rattle.judge.specs.Sound.{Upheld}

-- m and n hang together: a chain of edges leads from one to the other, each gone along or against
pub data Touching (G : Graph) : ℕ → ℕ → Type 0 where
  here : {v : ℕ} → Touching G v v
  along : {n : ℕ} (e : ℕ) → e < G.edges → Touching G (G.destination e) n → Touching G (G.source e) n
  against : {n : ℕ} (e : ℕ) → e < G.edges → Touching G (G.source e) n → Touching G (G.destination e) n

joined : (G : Graph) (m v n : ℕ) → Linked G m v → Linked G v n → Linked G m n
joined G m v n a b = (a.0 ++ b.0, route_append G a.0 b.0 m v n a.1 b.1)

module _ (G : Graph) (S : Seats G) where
  -- from every node of a process to every other
  round_linked : (u v : ℕ) → u < G.nodes → v < G.nodes → S.home u ≡ S.home v → Linked G u v
  unfolding Route
  round_linked u v hu hv p =
      elim (dec_le (S.seat u) (S.seat v)) [
        | yes l ↦ let r = ride G S u v hu hv p l in (r.0, r.1)
        | no l ↦
            let q : ℕ = S.home u in
            let hq = S.home_lt u hu in
            let su = S.seat_lt u hu in
            let j : ℕ = S.length q - 1 in
            let w : ℕ = S.node q j in
            let first : ℕ = S.node q 0 in
            let hw : w < G.nodes = S.node_lt q hq j (omega arith) in
            let hf : first < G.nodes = S.node_lt q hq 0 (omega arith) in
            let pw : S.home w ≡ q = S.home_node q hq j (omega arith) in
            let sw : S.seat w ≡ j = S.seat_node q hq j (omega arith) in
            let pf : S.home first ≡ q = S.home_node q hq 0 (omega arith) in
            let sf : S.seat first ≡ 0 = S.seat_node q hq 0 (omega arith) in
            let a = ride G S u w hu hw (sym pw) (omega arith) in
            let c = S.closing w hw (omega (arith, sw, ap S.length pw)) in
            let b = ride G S first v hf hv (pf ∙ p) (omega arith) in
            let step : Linked G w first = (c.0 ∷ [], (c.1, c.2, c.3 ∙ ap (λ x. S.node x 0) pw)) in
            joined G u w v (a.0, a.1) (joined G w first v step (b.0, b.1))
      ]

module _ (pl : Plan) (t : Tabled pl) (u : Upheld pl) where
  seats : Seats (graph_of pl)
  unfolding HasProcesses
  seats = seats_of (graph_of pl) pl.processes (at pl.lengths) (node_at pl) u.processes

  in_home : (v : ℕ) → v < (graph_of pl).nodes → InProcess pl v (seats.home v)
  unfolding seats seats_of
  in_home v h = (seats.seat v, record { process_lt = seats.home_lt v h; seat_lt = seats.seat_lt v h; here = seats.node_of v h })

  -- from the end of every edge a route leads back
  back : (e : ℕ) → e < (graph_of pl).edges → Linked (graph_of pl) ((graph_of pl).destination e) ((graph_of pl).source e)
  unfolding C4 Exceeds RouteBack graph_of graph_of_tables
  back e l =
      let hs = t.source_lt e l in
      let hd = t.destination_lt e l in
      elim (ℕ_discrete (seats.home (at pl.source e)) (seats.home (at pl.destination e))) [
        | yes p ↦ round_linked (graph_of pl) seats (at pl.destination e) (at pl.source e) hd hs (sym p)
        | no p ↦
            let r = u.c4.1 e (record {
              known = l;
              process_of_source = seats.home (at pl.source e);
              process_of_destination = seats.home (at pl.destination e);
              source_in = in_home (at pl.source e) hs;
              destination_in = in_home (at pl.destination e) hd;
              differ = p;
            }) in
            (r.1.some.0, r.1.some.1)
      ]

  -- nodes that hang together are linked by a route
  pub parts_strong : {m n : ℕ} → Touching (graph_of pl) m n → Linked (graph_of pl) m n
  unfolding Route
  parts_strong here = ([], refl)
  parts_strong {n = n} (along e l k) =
      joined (graph_of pl) ((graph_of pl).source e) ((graph_of pl).destination e) n (e ∷ [], (l, refl, refl)) (parts_strong k)
  parts_strong {n = n} (against e l k) =
      joined (graph_of pl) ((graph_of pl).destination e) ((graph_of pl).source e) n (back e l) (parts_strong k)
