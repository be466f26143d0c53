-- The edges of a process while it goes round: only synchronising edges can hold up its next node.
-- Assumes nothing.
use Rattle.std.specs.Prelude.{◌≡◌, List, [], ◌∷◌, ◌++◌}
use Rattle.std.proofs.Math.Path.{refl, sym, ap}
use Rattle.std.proofs.Common.{subst}
use Prim.Native.Nat.{ℕ, ◌≤◌, ◌<◌}
use native.Mathlib.Omega.{arith}
use Rattle.std.proofs.Math.Decide.{ℕ_discrete, dec_lt}
use Rattle.std.proofs.Math.ListN.{length-append}
use Rattle.net.specs.Graph.{Graph, Shaped, tokens_on, Fireable, after, Legal, Route, EveryCycleHolds}
use Rattle.net.specs.Processes.{Seats, Standing, Next, Inner, Synchronising}
use Rattle.net.specs.Append.{tokens_on_append, route_append}
use Rattle.net.specs.Tokens.{tokens_now}
use Rattle.net.specs.ProcessEdges.{ride}

module _ (G : Graph) (S : Seats G) where
  -- where every cycle holds a token, so does an edge at the start that leads back to an earlier seat of its process, or to its own
  pub chord_tokens : Shaped G → EveryCycleHolds G G.tokens → (e : ℕ) → e < G.edges → Inner G S e
      → S.seat (G.destination e) ≤ S.seat (G.source e) → 0 < G.tokens e
  unfolding EveryCycleHolds Route tokens_on
  chord_tokens shaped holds e h p l =
      let m = G.source e in
      let n = G.destination e in
      let t = ride G S n m (shaped.destination_lt e h) (shaped.source_lt e h) (sym p) l in
      omega (
        arith,
        holds n (t.0 ++ (e ∷ [])) (route_append G t.0 (e ∷ []) n m n t.1 (h, refl, refl), omega (arith, length-append t.0 (e ∷ []))),
        tokens_on_append G.tokens t.0 (e ∷ []),
        t.2,
      )

  module _ (rounds position : ℕ → ℕ) (s : List ℕ) (l : Legal G G.tokens s) (standing : Standing G S rounds position s) where
    -- an edge inside a process holds a token where its end is next
    pub chord_holds : Shaped G → EveryCycleHolds G G.tokens → (e : ℕ) → e < G.edges → Inner G S e
        → Next G S position (G.destination e) → 0 < after G G.tokens s e
    chord_holds shaped holds e h p q =
        let m = G.source e in
        let n = G.destination e in
        let now = tokens_now G G.tokens s l e h in
        let fired_m = standing.fired m (shaped.source_lt e h) in
        let fired_n = standing.fired n (shaped.destination_lt e h) in
        let same_rounds = ap rounds p in
        let same_position = ap position p in
        elim (dec_lt (S.seat m) (S.seat n)) [
          | yes b ↦ omega arith
          | no b ↦ omega (arith, chord_tokens shaped holds e h p (omega arith))
        ]

    -- the next node of a process may fire where each synchronising edge into it holds a token
    pub next_may : Shaped G → EveryCycleHolds G G.tokens → (v : ℕ) → Next G S position v
        → ((e : ℕ) → e < G.edges → G.destination e ≡ v → Synchronising G S e → 0 < after G G.tokens s e) → Fireable G (after G G.tokens s) v
    unfolding Fireable
    next_may shaped holds v next f e h p =
        elim (ℕ_discrete (S.home (G.source e)) (S.home (G.destination e))) [
          | yes q ↦ chord_holds shaped holds e h q (subst (Next G S position) (sym p) next)
          | no q ↦ f e h p q
        ]
