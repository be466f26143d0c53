-- A machine of positions, open flags, counters and marks, beside the marked graph fired in the same order: what every call keeps.
-- Assumes nothing.
use Rattle.std.specs.Prelude.{◌≡◌, refl, true, List, [], ◌∷◌, ◌++◌, ◌↔◌, ◌≢◌, ℕ, ◌+◌, ◌%◌, ◌<◌}
use Rattle.std.proofs.Common.{sym, ◌∙◌, subst, inl, inr, arith}
use Rattle.std.proofs.Math.Path.{ap}
use Rattle.std.proofs.Math.Decide.{ℕ_discrete}
use Rattle.std.proofs.Math.Nat.{mod-add-mod}
use Rattle.loops.specs.Sum.{sum}
use Rattle.net.specs.Graph.{Graph, Shaped, firings, Fireable, after, Legal, EveryCycleHolds}
use Rattle.net.specs.Processes.{Seats, Standing, Next, Moved, Synchronising}
use Rattle.net.specs.Counts.{same_or_not, firings_snoc}
use Rattle.net.specs.Append.{legal_snoc}
use Rattle.net.specs.Tokens.{tokens_now, lead}
use Rattle.net.proofs.ProcessEdges.{chord_holds}
use Rattle.net.specs.Rounds.{standing_moved}
use Rattle.counting.specs.Modular.{less_earlier, finds}
use Rattle.counting.specs.Process.{Counted_node, counter_value}
use Rattle.counting.proofs.Look as look
use Rattle.follow.specs.Counters.{Counters, added, added_snoc, shares, round_full, added_by_rounds}

module _ (G : Graph) (S : Seats G) (K : Counters G S) where
  -- positions, open flags, counters and marks stand for the firings of a list
  pub record Beside (position opened held : ℕ → ℕ) (mark : ℕ → ℕ → ℕ) (s : List ℕ) : Type 0 where
    -- the firings are a legal order
    pub legal : Legal G G.tokens s
    -- each process has gone round so often and stands at its position
    pub rounds : ℕ → ℕ
    pub standing : Standing G S rounds position s
    -- each counter is its increments times the firings, modulo N
    pub counted : (c : ℕ) → c < K.counters → held c ≡ added G S K c s % K.n
    -- an edge that an open process no longer has to see holds a token
    pub seen : (e : ℕ) → e < G.edges → Synchronising G S e → Next G S position (G.destination e)
        → 0 < opened (S.home (G.destination e)) → mark (S.home (G.destination e)) e ≡ 0 → 0 < after G G.tokens s e

  -- b(x) of 01, from the counters
  abbrev pub b : (ℕ → ℕ) → ℕ → ℕ
  b held x = less_earlier K.n (held (K.counter x)) (sum (shares G S K x) (S.seat x))

  -- the test of edge e
  abbrev pub finds_edge : (ℕ → ℕ) → ℕ → Type 0
  finds_edge held e = finds (K.total (K.counter (G.destination e))) K.n (G.tokens e) (b held (G.destination e)) (b held (G.source e)) ≡ true

  module _ (shaped : Shaped G) {position opened held : ℕ → ℕ} {mark : ℕ → ℕ → ℕ} {s : List ℕ}
      (i : Beside position opened held mark s) where
    -- each counter is also its sum for each round of its process, and the increments up to the position, modulo N
    pub held_by_rounds : (v : ℕ) → v < G.nodes
        → held (K.counter v) ≡ counter_value (K.total (K.counter v)) (shares G S K v) (i.rounds (S.home v)) (position (S.home v)) % K.n
    held_by_rounds v h =
        i.counted (K.counter v) (K.counter_lt v h) ∙ ap (◌% K.n) (added_by_rounds G S K i.rounds position s i.standing v h)

    -- a node as `counting` sees it, with q for its counter's sum
    counted_node : (v : ℕ) → v < G.nodes → (q : ℕ) → K.total (K.counter v) ≡ q → Counted_node q K.n
    counted_node v h q e =
        record {
          increment = shares G S K v;
          length = S.length (S.home v);
          rounds = i.rounds (S.home v);
          position = position (S.home v);
          seat = S.seat v;
          counter = held (K.counter v);
          firings = firings v s;
          full = round_full G S K v h ∙ e;
          position_lt = i.standing.fits (S.home v) (S.home_lt v h);
          seat_lt = S.seat_lt v h;
          counted = subst (λ q. held (K.counter v) ≡ counter_value q (shares G S K v) (i.rounds (S.home v)) (position (S.home v)) % K.n) e (held_by_rounds v h);
          has_fired = i.standing.fired v h;
        }

    -- a look at a synchronising in-edge of a next node finds exactly where the marked graph has a token
    pub look_exact : (e : ℕ) → e < G.edges → Synchronising G S e → Next G S position (G.destination e)
        → finds_edge held e ↔ (0 < after G G.tokens s e)
    unfolding counted_node
    look_exact e h d next =
        let n = G.destination e in
        let m = G.source e in
        let n_lt = shaped.destination_lt e h in
        let m_lt = shaped.source_lt e h in
        let back = K.c4 e h d in
        let route = back.1.some in
        look.look_exact (counted_node n n_lt (K.total (K.counter n)) refl) (counted_node m m_lt (K.total (K.counter n)) (K.same_total e h d))
        (K.c3 n n_lt).1 (K.divides n n_lt) next (subst (λ x. 0 < K.share (K.counter m) x) (sym (S.node_of m m_lt)) (K.c2 e h d)) (G.tokens e)
        (after G G.tokens s e) (tokens_now G G.tokens s i.legal e h) back.0
        (omega (arith, lead G G.tokens s i.legal route.0 n m route.1, route.2)) back.2

    -- process p is opened: its edges to see are marked
    pub open_beside : (p : ℕ) (opened' : ℕ → ℕ) (mark' : ℕ → ℕ → ℕ)
        → ((r : ℕ) → r ≢ p → (opened' r ≡ opened r) × ((e : ℕ) → e < G.edges → mark' r e ≡ mark r e))
        → ((e : ℕ) → e < G.edges → Synchronising G S e → Next G S position (G.destination e) → S.home (G.destination e) ≡ p → mark' p e ≢ 0)
        → Beside position opened' held mark' s
    open_beside p opened' mark' others marks =
        record {
          legal = i.legal;
          rounds = i.rounds;
          standing = i.standing;
          counted = i.counted;
          seen = λ e h d next o z.
              elim (ℕ_discrete (S.home (G.destination e)) p) [
                | yes y ↦ absurd (marks e h d next y (ap (λ r. mark' r e) (sym y) ∙ z))
                | no y ↦ let k = others (S.home (G.destination e)) y in i.seen e h d next (omega (arith, k.0)) (sym (k.1 e h) ∙ z)
              ];
        }

    -- process p has found edge f: its mark goes
    pub found_beside : (p f : ℕ) (mark' : ℕ → ℕ → ℕ) → finds_edge held f
        → ((r e : ℕ) → e < G.edges → (r ≡ p → e ≢ f) → mark' r e ≡ mark r e) → Beside position opened held mark' s
    found_beside p f mark' t others =
        record {
          legal = i.legal;
          rounds = i.rounds;
          standing = i.standing;
          counted = i.counted;
          seen = λ e h d next o z.
              elim (ℕ_discrete e f) [
                | yes y ↦ (look_exact e h d next).0 (subst (finds_edge held) (sym y) t)
                | no y ↦ i.seen e h d next o (sym (others (S.home (G.destination e)) e h (λ x. y)) ∙ z)
              ];
        }

    -- with nothing left to see, the next node of an open process may fire: its synchronising in-edges were seen, the others hold a token
    pub may_fire : EveryCycleHolds G G.tokens → (v : ℕ) → v < G.nodes → Next G S position v → 0 < opened (S.home v) → ((e : ℕ) → e < G.edges → mark (S.home v) e ≡ 0)
        → Fireable G (after G G.tokens s) v
    unfolding Fireable
    may_fire holds v h next o none e l q =
        let next_end : Next G S position (G.destination e) = ap S.seat q ∙ next ∙ ap (λ x. position (S.home x)) (sym q) in
        elim (ℕ_discrete (S.home (G.source e)) (S.home (G.destination e))) [
          | yes y ↦ chord_holds G S i.rounds position s i.legal i.standing shaped holds e l y next_end
          | no y ↦ i.seen e l y next_end (omega (arith, ap (λ x. opened (S.home x)) q)) (ap (λ x. mark (S.home x) e) q ∙ none e l)
        ]

    -- and what its firing leaves
    pub fire_beside : (v : ℕ) → v < G.nodes → Next G S position v → Fireable G (after G G.tokens s) v
        → (position' opened' held' rounds' : ℕ → ℕ) → Moved G S v i.rounds position rounds' position'
        → opened' (S.home v) ≡ 0 → ((r : ℕ) → r ≢ S.home v → opened' r ≡ opened r)
        → held' (K.counter v) ≡ (held (K.counter v) + K.share (K.counter v) v) % K.n → ((c : ℕ) → c ≢ K.counter v → held' c ≡ held c)
        → Beside position' opened' held' mark (s ++ (v ∷ []))
    fire_beside v h next may position' opened' held' rounds' moved closed others raised kept =
        record {
          legal = legal';
          rounds = rounds';
          standing = standing_moved G S v h i.rounds position rounds' position' s next moved i.standing;
          counted = λ c l.
              elim (ℕ_discrete c (K.counter v)) [
                | yes y ↦
                    ap held' y ∙ raised ∙ ap (λ x. (x + K.share (K.counter v) v) % K.n) (i.counted (K.counter v) (K.counter_lt v h))
                    ∙ mod-add-mod (added G S K (K.counter v) s) K.n (K.share (K.counter v) v)
                    ∙ ap (◌% K.n) (sym (added_snoc G S K (K.counter v) v s h)) ∙ ap (λ x. added G S K x (s ++ (v ∷ [])) % K.n) (sym y)
                | no y ↦
                    kept c y ∙ i.counted c l
                    ∙ ap (◌% K.n) (let none = K.share_other c v (λ x. y (sym x)) in omega (arith, added_snoc G S K c v s h))
              ];
          seen = λ e l d next' o z.
              let other : S.home (G.destination e) ≢ S.home v = λ x. omega (arith, ap opened' x) in
              let stays = moved.others (S.home (G.destination e)) other in
              let before = i.seen e l d (next' ∙ stays.1) (omega (arith, others (S.home (G.destination e)) other)) z in
              elim (same_or_not (G.destination e) v) [
                | inl y ↦ absurd (other (ap S.home y.0))
                | inr y ↦
                    omega (
                      arith,
                      tokens_now G G.tokens s i.legal e l,
                      tokens_now G G.tokens (s ++ (v ∷ [])) legal' e l,
                      firings_snoc (G.destination e) v s,
                      firings_snoc (G.source e) v s,
                    )
              ];
        }
      where
        legal' : Legal G G.tokens (s ++ (v ∷ []))
        legal' = legal_snoc G G.tokens s v i.legal h may
