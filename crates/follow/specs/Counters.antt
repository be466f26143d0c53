-- Counters over processes, with 01's conditions C1 to C4 for them.
-- Assumes nothing.
use Rattle.std.specs.Prelude.{◌≡◌, List, [], ◌∷◌, ◌++◌, ◌≢◌, ℕ, ◌+◌, ◌*◌, ◌<◌}
use Rattle.std.proofs.Common.{sym, ◌∙◌, arith}
use Rattle.std.proofs.Math.Path.{ap}
use Rattle.std.proofs.Math.Logic.{inl, inr}
use Rattle.loops.specs.Sum.{sum, sum_same, sum_none}
use Rattle.net.specs.Graph.{Graph, Emptiest, firings}
use Rattle.net.specs.Processes.{Seats, Standing, Synchronising, before}
use Rattle.net.specs.Counts.{same_or_not, one_if_same_self, firings_snoc}
use Rattle.counting.specs.Modular.{Divides, Exceeds}
use Rattle.counting.specs.Process.{counter_value}
use Rattle.follow.specs.RoundSums.{sum_one_place, sum_rounds, sum_round}

-- The counters of nodes, what each firing adds, and what C1 to C4 say of them. Each counter has a sum: of the increments to it in one round.
-- 01 has one sum Q for all counters; here the two ends of a synchronising edge need equal ones, and N is a multiple of each.
pub record Counters (G : Graph) (S : Seats G) : Type 0 where
  pub counters : ℕ
  -- the counter of a node
  pub counter : ℕ → ℕ
  -- what a firing of node v adds to counter c
  pub share : ℕ → ℕ → ℕ
  -- the sum of counter c
  pub total : ℕ → ℕ
  -- the modulus N
  pub n : ℕ
  pub counter_lt : (v : ℕ) → v < G.nodes → counter v < counters
  pub share_other : (c v : ℕ) → counter v ≢ c → share c v ≡ 0
  pub c1 : (u v : ℕ) → u < G.nodes → v < G.nodes → counter u ≡ counter v → S.home u ≡ S.home v
  pub c2 : (e : ℕ) → e < G.edges → Synchronising G S e → 0 < share (counter (G.source e)) (G.source e)
  pub c3 : (v : ℕ) → v < G.nodes → (sum (share (counter v)) G.nodes ≡ total (counter v)) × (0 < total (counter v))
  pub same_total : (e : ℕ) → e < G.edges → Synchronising G S e → total (counter (G.source e)) ≡ total (counter (G.destination e))
  pub divides : (v : ℕ) → v < G.nodes → Divides (total (counter v)) n
  pub c4 : (e : ℕ) → e < G.edges → Synchronising G S e
      → (d : ℕ) × Emptiest G G.tokens (G.destination e) (G.source e) d × Exceeds (total (counter (G.destination e))) n (G.tokens e) d

module _ (G : Graph) (S : Seats G) (K : Counters G S) where
  -- what the firings of a list add to counter c: each node's share as often as it has fired
  unfoldable pub added : ℕ → List ℕ → ℕ
  added c s = sum (λ v. K.share c v * firings v s) G.nodes

  -- no firings add nothing
  pub added_none : (c : ℕ) → added c [] ≡ 0
  unfolding added firings
  added_none c = sum_none (λ v. K.share c v * 0) G.nodes (λ v h. omega arith)

  -- one firing more
  pub added_snoc : (c v : ℕ) (s : List ℕ) → v < G.nodes → added c (s ++ (v ∷ [])) ≡ added c s + K.share c v
  unfolding added
  added_snoc c v s h =
      sum_one_place (λ u. K.share c u * firings u (s ++ (v ∷ []))) (λ u. K.share c u * firings u s) G.nodes v (K.share c v) h
      (λ u l d.
      elim (same_or_not u v) [
        | inl p ↦ absurd (d p.0)
        | inr p ↦ ap (K.share c u *◌) (let e : firings u (s ++ (v ∷ [])) ≡ firings u s = omega (arith, firings_snoc u v s) in e)
      ])
      (ap (K.share c v *◌) (let e : firings v (s ++ (v ∷ [])) ≡ firings v s + 1 = omega (arith, firings_snoc v v s, one_if_same_self v) in e) ∙ omega arith)

  -- the increments to v's counter at the seats of v's process
  abbrev pub shares : ℕ → ℕ → ℕ
  shares v j = K.share (K.counter v) (S.node (S.home v) j)

  -- outside v's process nothing is added to v's counter
  elsewhere : (v : ℕ) → v < G.nodes → (u : ℕ) → u < G.nodes → S.home u ≢ S.home v → K.share (K.counter v) u ≡ 0
  elsewhere v h u l d = K.share_other (K.counter v) u (λ e. d (K.c1 u v l h e))

  -- C3 in a process's round
  pub round_full : (v : ℕ) → v < G.nodes → sum (shares v) (S.length (S.home v)) ≡ K.total (K.counter v)
  round_full v h = sym (sum_round G S (S.home v) (K.share (K.counter v)) (S.home_lt v h) (elsewhere v h)) ∙ (K.c3 v h).0

  -- 000's ct[c]: what was added to a counter, from its process's rounds and position
  pub added_by_rounds : (rounds position : ℕ → ℕ) (s : List ℕ) → Standing G S rounds position s → (v : ℕ) → v < G.nodes
      → added (K.counter v) s ≡ counter_value (K.total (K.counter v)) (shares v) (rounds (S.home v)) (position (S.home v))
  unfolding added
  added_by_rounds rounds position s a v h =
      let p = S.home v in
      let hp = S.home_lt v h in
      sum_round G S p (λ u. K.share (K.counter v) u * firings u s) hp (λ u l d. ap (◌* firings u s) (elsewhere v h u l d) ∙ omega arith)
      ∙ sum_same _ (λ j. shares v j * (rounds p + before j (position p))) (S.length p) (λ j l. ap (shares v j *◌) (at_seat j l))
      ∙ sum_rounds (shares v) (rounds p) (position p) (S.length p) (omega (arith, a.fits p hp))
      ∙ ap (λ x. x * rounds p + sum (shares v) (position p)) (round_full v h)
    where
      at_seat : (j : ℕ) → j < S.length (S.home v) → firings (S.node (S.home v) j) s ≡ rounds (S.home v) + before j (position (S.home v))
      at_seat j l =
          let p = S.home v in
          let hp = S.home_lt v h in
          let home = S.home_node p hp j l in
          omega (arith, a.fired (S.node p j) (S.node_lt p hp j l), S.seat_node p hp j l, ap rounds home, ap position home)
