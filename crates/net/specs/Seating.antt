-- Processes, and the same with each node's process and seat as functions: each from the other.
-- Assumes nothing.
use Rattle.std.specs.Prelude.{◌≡◌, ℕ, suc, ◌<◌}
use Rattle.std.proofs.Common.{sym, ap₂, ◌∙◌, subst}
use Rattle.std.proofs.Math.Decide.{dec_lt}
use Rattle.net.specs.Graph.{Graph}
use Rattle.net.specs.Processes.{Edge, Processes, Seats}

module _ (G : Graph) (processes : ℕ) (length : ℕ → ℕ) (node : ℕ → ℕ → ℕ) (P : Processes G processes length node) where
  -- v stands at seat j of process p
  pub record Seated (v p j : ℕ) : Type 0 where
    pub process_lt : p < processes
    pub seat_lt : j < length p
    pub there : node p j ≡ v

  -- where `cover` tells that a node stands; a number that is no node is said to stand at 0 and 0
  pub place : (v : ℕ) → Dec (v < G.nodes) → (p : ℕ) × (j : ℕ) × (v < G.nodes → Seated v p j)
  place v (yes h) = let t = P.cover v h in (t.0, t.1, λ k. record { process_lt = t.2; seat_lt = t.3; there = t.4 })
  place v (no h) = (0, 0, λ k. absurd (h k))

  -- its process
  pub home_of : ℕ → ℕ
  home_of v = (place v (dec_lt v G.nodes)).0

  -- its seat
  pub seat_of : ℕ → ℕ
  seat_of v = (place v (dec_lt v G.nodes)).1

  -- a node stands there
  pub seated : (v : ℕ) → v < G.nodes → Seated v (home_of v) (seat_of v)
  unfolding home_of seat_of
  seated v h = (place v (dec_lt v G.nodes)).2 h

  -- and nowhere else
  pub alone : (p : ℕ) → p < processes → (j : ℕ) → j < length p → (home_of (node p j) ≡ p) × (seat_of (node p j) ≡ j)
  alone p h j l =
      let a : Seated (node p j) (home_of (node p j)) (seat_of (node p j)) = seated (node p j) (P.inside p h j l) in
      P.apart (home_of (node p j)) p a.process_lt h (seat_of (node p j)) j a.seat_lt l a.there

  -- the seats of processes
  unfoldable pub seats_of : Seats G
  seats_of =
      record {
        processes = processes;
        length = length;
        node = node;
        home = home_of;
        seat = seat_of;
        home_lt = λ v h. (seated v h).process_lt;
        seat_lt = λ v h. (seated v h).seat_lt;
        node_of = λ v h. (seated v h).there;
        node_lt = P.inside;
        home_node = λ p h j l. (alone p h j l).0;
        seat_node = λ p h j l. (alone p h j l).1;
        on = λ v h l.
            subst (λ u. Edge G u (node (home_of v) (suc (seat_of v))) 0) (seated v h).there (P.on (home_of v) (seated v h).process_lt (seat_of v) l);
        closing = λ v h l.
            subst (λ u. Edge G u (node (home_of v) 0) 1) (seated v h).there (P.closing (home_of v) (seated v h).process_lt (seat_of v) l);
      }

module _ (G : Graph) (S : Seats G) where
  -- two nodes with one process and one seat are one
  pub same_seat : (u v : ℕ) → u < G.nodes → v < G.nodes → S.home u ≡ S.home v → S.seat u ≡ S.seat v → u ≡ v
  same_seat u v hu hv p q = sym (S.node_of u hu) ∙ ap₂ S.node p q ∙ S.node_of v hv
