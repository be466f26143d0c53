-- The edges of a process while it goes round: only its next node may fire.
-- Assumes nothing.
use Rattle.std.specs.Prelude.{◌≡◌, List, [], ◌∷◌, ◌++◌, ◌⊎◌}
use Rattle.std.proofs.Math.Path.{refl, sym, ap, ap₂}
use Rattle.std.proofs.Common.{◌∙◌, subst}
use Rattle.std.proofs.Math.Logic.{inl, inr}
use Prim.Native.Nat.{ℕ, zero, suc, ◌+◌, ◌-◌, ◌≤◌, ◌<◌}
use native.Mathlib.Omega.{arith}
use Rattle.net.specs.Graph.{Graph, one_if_same, firings, tokens_on, Fireable, after, Legal, Route, TokenFree}
use Rattle.net.specs.Processes.{Edge, Seats, Standing, Next}
use Rattle.net.specs.Counts.{same_or_not}
use Rattle.net.specs.Append.{tokens_on_append, route_append}
use Rattle.net.specs.Tokens.{tokens_now}

module _ (G : Graph) (S : Seats G) where
  -- e is the process edge into v: its source is the node before v in the round of v's process
  pub record ProcessEdge (v e : ℕ) : Type 0 where
    pub edge_lt : e < G.edges
    pub source_lt : G.source e < G.nodes
    pub into : G.destination e ≡ v
    pub inside : S.home (G.source e) ≡ S.home v
    pub place : ((suc (S.seat (G.source e)) ≡ S.seat v) × (G.tokens e ≡ 0))
        ⊎ ((suc (S.seat (G.source e)) ≡ S.length (S.home v)) × (S.seat v ≡ 0) × (G.tokens e ≡ 1))

  -- every node has one
  pub process_edge : (v : ℕ) → v < G.nodes → (e : ℕ) × ProcessEdge v e
  process_edge v h = by_seat (S.seat v) refl
    where
      p : ℕ
      p = S.home v

      hp : p < S.processes
      hp = S.home_lt v h

      -- an edge from the seat before v's
      from : (i t : ℕ) → i < S.length p → Edge G (S.node p i) v t
          → ((suc i ≡ S.seat v) × (t ≡ 0)) ⊎ ((suc i ≡ S.length p) × (S.seat v ≡ 0) × (t ≡ 1)) → (e : ℕ) × ProcessEdge v e
      from i t l (e, k, s, d, q) c = (
        e,
        record {
          edge_lt = k;
          source_lt = subst (◌< G.nodes) (sym s) (S.node_lt p hp i l);
          into = d;
          inside = ap S.home s ∙ S.home_node p hp i l;
          place =
              elim c [
                | inl z ↦ inl (ap suc seat ∙ z.0, q ∙ z.1)
                | inr z ↦ inr (ap suc seat ∙ z.0, z.1, q ∙ z.2)
              ];
        },
      )
        where
          seat : S.seat (G.source e) ≡ i
          seat = ap S.seat s ∙ S.seat_node p hp i l

      -- an edge to the node at v's seat is one to v
      arrive : (i t j : ℕ) → i < S.length p → Edge G (S.node p i) (S.node (S.home (S.node p i)) j) t → j ≡ S.seat v → Edge G (S.node p i) v t
      arrive i t j l (e, k, s, d, q) z = (e, k, s, d ∙ ap₂ S.node (S.home_node p hp i l) z ∙ S.node_of v h, q)

      -- the length of its process
      long : (i : ℕ) → i < S.length p → S.length (S.home (S.node p i)) ≡ S.length p
      long i l = ap S.length (S.home_node p hp i l)

      by_seat : (j : ℕ) → S.seat v ≡ j → (e : ℕ) × ProcessEdge v e
      by_seat zero q =
          let fits = S.seat_lt v h in
          let i : ℕ = S.length p - 1 in
          let l : i < S.length p = omega arith in
          let e = S.closing (S.node p i) (S.node_lt p hp i l) (omega (arith, S.seat_node p hp i l, long i l)) in
          from i 1 l (arrive i 1 0 l e (sym q)) (inr (omega arith, q, refl))
      by_seat (suc i) q =
          let l : i < S.length p = omega (arith, S.seat_lt v h) in
          let at = S.seat_node p hp i l in
          let e = S.on (S.node p i) (S.node_lt p hp i l) (omega (arith, S.seat_lt v h, long i l)) in
          from i 0 l (arrive i 0 (suc (S.seat (S.node p i))) l e (ap suc at ∙ sym q)) (inl (sym q, refl))

  -- from a seat to one d further of the same process
  ride_by : (d v : ℕ) → v < G.nodes → S.seat v + d < S.length (S.home v) → TokenFree G G.tokens v (S.node (S.home v) (S.seat v + d))
  unfolding Route tokens_on
  ride_by zero v h l = ([], sym (ap (S.node (S.home v)) (let e : S.seat v + 0 ≡ S.seat v = omega arith in e) ∙ S.node_of v h), refl)
  ride_by (suc d) v h l =
      let t = ride_by d v h (omega arith) in
      let p = S.home v in
      let hp = S.home_lt v h in
      let j : ℕ = S.seat v + d in
      let u = S.node p j in
      let k : j < S.length p = omega arith in
      let home_u = S.home_node p hp j k in
      let seat_u = S.seat_node p hp j k in
      let e = S.on u (S.node_lt p hp j k) (omega (arith, ap S.length home_u)) in (
        t.0 ++ (e.0 ∷ []),
        route_append G t.0 (e.0 ∷ []) v u (S.node p (S.seat v + suc d)) t.1
            (e.1, e.2, e.3 ∙ ap₂ S.node home_u (let q : suc (S.seat u) ≡ S.seat v + suc d = omega arith in q)),
        omega (arith, tokens_on_append G.tokens t.0 (e.0 ∷ []), t.2, e.4),
      )

  -- at the start a token-free route leads from an earlier seat to a later one of the same process
  pub ride : (u v : ℕ) → u < G.nodes → v < G.nodes → S.home u ≡ S.home v → S.seat u ≤ S.seat v → TokenFree G G.tokens u v
  ride u v hu hv p l =
      let q : S.seat u + (S.seat v - S.seat u) ≡ S.seat v = omega arith in
      subst (TokenFree G G.tokens u) (ap₂ S.node p q ∙ S.node_of v hv)
      (ride_by (S.seat v - S.seat u) u hu (omega (arith, S.seat_lt v hv, ap S.length p)))

  module _ (rounds position : ℕ → ℕ) (s : List ℕ) (l : Legal G G.tokens s) (standing : Standing G S rounds position s) where
    -- the process edge into v holds one token where v is next, and otherwise none
    pub process_edge_holds : (v e : ℕ) → v < G.nodes → ProcessEdge v e → after G G.tokens s e ≡ one_if_same (S.seat v) (position (S.home v))
    process_edge_holds v e h k =
        let now = tokens_now G G.tokens s l e k.edge_lt in
        let end = ap (λ x. firings x s) k.into in
        let fired_u = standing.fired (G.source e) k.source_lt in
        let fired_v = standing.fired v h in
        let same_rounds = ap rounds k.inside in
        let same_position = ap position k.inside in
        let fits = standing.fits (S.home v) (S.home_lt v h) in
        elim (same_or_not (S.seat v) (position (S.home v))) [
          | inl c ↦ elim k.place [ inl z ↦ omega arith | inr z ↦ omega arith ]
          | inr c ↦ elim k.place [ inl z ↦ omega arith | inr z ↦ omega arith ]
        ]

    -- only the next node of a process may fire
    pub next_only : (v : ℕ) → v < G.nodes → Fireable G (after G G.tokens s) v → Next G S position v
    unfolding Fireable
    next_only v h f =
        let t = process_edge v h in
        elim (same_or_not (S.seat v) (position (S.home v))) [
          | inl c ↦ c.0
          | inr c ↦ absurd (omega (arith, f t.0 t.1.edge_lt t.1.into, process_edge_holds v t.0 h t.1))
        ]
