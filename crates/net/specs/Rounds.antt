-- Rounds and positions: after any legal order each process has gone round so many times and stands at a seat.
-- Assumes nothing.
use Rattle.std.specs.Prelude.{◌≡◌, refl, ◌⊎◌, ◌≢◌, eqb}
use Rattle.std.proofs.Common.{sym, ap, ◌∙◌, inl, inr, eq-eqb, ne_eqb}
use Rattle.std.proofs.Math.Path.{subst}
use mathlib.Core.List.{List, [], ◌∷◌, ◌++◌, append_assoc, append-nil}
use Prim.Native.Nat.{ℕ, zero, suc, ◌+◌, ◌*◌, ◌<◌, min}
use native.Mathlib.Omega.{arith}
use Rattle.std.proofs.Math.Decide.{ℕ_discrete}
use Rattle.loops.specs.Choice.{if, if_true, if_false}
use Rattle.loops.specs.Sum.{sum, sum_same}
use Rattle.net.specs.Graph.{Graph, one_if_same, firings, Legal}
use Rattle.net.specs.Processes.{Seats, before, Standing, Next, Moved}
use Rattle.net.specs.Counts.{same_or_not, firings_snoc}
use Rattle.net.specs.Append.{legal_prefix}
use Rattle.net.specs.Seating.{same_seat}
use Rattle.net.specs.ProcessEdges.{next_only}

-- n counts of whole rounds, and one more at each place before i
sum_before : (r i n : ℕ) → sum (λ j. r + before j i) n ≡ n * r + min n i
unfolding sum
sum_before r i zero = omega arith
sum_before r i (suc n) = omega (arith, sum_before r i n)

-- f with x at place q
unfoldable replaced : (ℕ → ℕ) → ℕ → ℕ → ℕ → ℕ
replaced f q x p = if (eqb p q) x (f p)

replaced_same : (f : ℕ → ℕ) (q x : ℕ) → replaced f q x q ≡ x
unfolding replaced
replaced_same f q x = if_true (eqb q q) x (f q) (eq-eqb q q refl)

replaced_other : (f : ℕ → ℕ) (q x p : ℕ) → p ≢ q → replaced f q x p ≡ f p
unfolding replaced
replaced_other f q x p d = if_false (eqb p q) x (f p) (ne_eqb p q d)

module _ (G : Graph) (S : Seats G) where
  -- a process's firings are its rounds and its position
  pub rounds_of_process : (rounds position : ℕ → ℕ) (s : List ℕ) → Standing G S rounds position s → (p : ℕ) → p < S.processes
      → sum (λ j. firings (S.node p j) s) (S.length p) ≡ S.length p * rounds p + position p
  rounds_of_process rounds position s a p h =
      sum_same (λ j. firings (S.node p j) s) (λ j. rounds p + before j (position p)) (S.length p) at_seat
      ∙ sum_before (rounds p) (position p) (S.length p) ∙ omega (arith, a.fits p h)
    where
      at_seat : (j : ℕ) → j < S.length p → firings (S.node p j) s ≡ rounds p + before j (position p)
      at_seat j l =
          let home = S.home_node p h j l in
          omega (arith, a.fired (S.node p j) (S.node_lt p h j l), S.seat_node p h j l, ap rounds home, ap position home)

  -- at the start no process has moved
  pub standing_start : ((p : ℕ) → p < S.processes → 0 < S.length p) → Standing G S (λ p. 0) (λ p. 0) []
  unfolding firings
  standing_start some = record { fits = some; fired = λ v h. omega arith }

  -- some rounds and positions are those after a firing of v
  pub moved : (v : ℕ) (rounds position : ℕ → ℕ) → (rounds' position' : ℕ → ℕ) × Moved G S v rounds position rounds' position'
  moved v rounds position =
      let p = S.home v in
      elim (ℕ_discrete (suc (S.seat v)) (S.length p)) [
        | yes z ↦ (
          replaced rounds p (suc (rounds p)),
          replaced position p 0,
          record {
            others = λ q d. (replaced_other rounds p (suc (rounds p)) q d, replaced_other position p 0 q d);
            onward = λ l. absurd (omega arith);
            round = λ l. (replaced_same rounds p (suc (rounds p)), replaced_same position p 0);
          },
        )
        | no z ↦ (
          rounds,
          replaced position p (suc (position p)),
          record {
            others = λ q d. (refl, replaced_other position p (suc (position p)) q d);
            onward = λ l. (refl, replaced_same position p (suc (position p)));
            round = λ l. absurd (z l);
          },
        )
      ]

  -- the next node of a process fires, and the process moves to the seat after it
  pub standing_moved : (v : ℕ) → v < G.nodes → (rounds position rounds' position' : ℕ → ℕ) (s : List ℕ) → Next G S position v
      → Moved G S v rounds position rounds' position' → Standing G S rounds position s → Standing G S rounds' position' (s ++ (v ∷ []))
  standing_moved v h rounds position rounds' position' s next m a = record { fits = fits'; fired = fired' }
    where
      fits_v : S.seat v < S.length (S.home v)
      fits_v = S.seat_lt v h

      fits' : (p : ℕ) → p < S.processes → position' p < S.length p
      fits' p hp =
          elim (ℕ_discrete p (S.home v)) [
            | no d ↦ omega (arith, m.others p d, a.fits p hp)
            | yes q ↦
                let same_position = ap position' q in
                let same_length = ap S.length q in
                elim (ℕ_discrete (suc (S.seat v)) (S.length (S.home v))) [
                  | yes z ↦ omega (arith, m.round z, fits_v)
                  | no z ↦ omega (arith, m.onward (omega (arith, fits_v)), fits_v)
                ]
          ]

      -- v has its seat alone
      alone : (u : ℕ) → u < G.nodes → S.home u ≡ S.home v
          → ((S.seat u ≡ S.seat v) × (one_if_same u v ≡ 1)) ⊎ ((S.seat u ≢ S.seat v) × (one_if_same u v ≡ 0))
      alone u hu p =
          elim (same_or_not u v) [
            | inl q ↦ inl (ap S.seat q.0, q.1)
            | inr q ↦ inr (λ z. q.0 (same_seat G S u v hu h p z), q.1)
          ]

      fired' : (u : ℕ) → u < G.nodes → firings u (s ++ (v ∷ [])) ≡ rounds' (S.home u) + before (S.seat u) (position' (S.home u))
      fired' u hu =
          let more = firings_snoc u v s in
          let fired = a.fired u hu in
          elim (ℕ_discrete (S.home u) (S.home v)) [
            | no d ↦
                let stays = m.others (S.home u) d in
                elim (same_or_not u v) [
                  | inl q ↦ absurd (d (ap S.home q.0))
                  | inr q ↦ omega arith
                ]
            | yes p ↦
                let old_rounds = ap rounds p in
                let old_position = ap position p in
                let new_rounds = ap rounds' p in
                let new_position = ap position' p in
                let same_length = ap S.length p in
                let fits_u = S.seat_lt u hu in
                elim (ℕ_discrete (suc (S.seat v)) (S.length (S.home v))) [
                  | yes z ↦ let goes = m.round z in elim (alone u hu p) [ inl q ↦ omega arith | inr q ↦ omega arith ]
                  | no z ↦ let goes = m.onward (omega (arith, fits_v)) in elim (alone u hu p) [ inl q ↦ omega arith | inr q ↦ omega arith ]
                ]
          ]

  -- after any legal order from the starting tokens there are rounds and positions
  pub standing_of : ((p : ℕ) → p < S.processes → 0 < S.length p) → (s : List ℕ) → Legal G G.tokens s
      → (rounds position : ℕ → ℕ) × Standing G S rounds position s
  unfolding Legal
  standing_of some s l = go s [] l (λ p. 0) (λ p. 0) (standing_start some)
    where
      -- t has been fired, and s is to come
      go : (s t : List ℕ) → Legal G G.tokens (t ++ s) → (rounds position : ℕ → ℕ) → Standing G S rounds position t
          → (rounds position : ℕ → ℕ) × Standing G S rounds position (t ++ s)
      go [] t l rounds position a = (rounds, position, subst (Standing G S rounds position) (sym (append-nil t)) a)
      go (v ∷ s) t l rounds position a =
          let k = legal_prefix G G.tokens t (v ∷ s) l in
          let m = moved v rounds position in
          let next = next_only G S rounds position t k.0 a v k.1.0 k.1.1 in
          let r = go s (t ++ (v ∷ [])) (subst (Legal G G.tokens) (sym (append_assoc t (v ∷ []) s)) l) m.0 m.1
          (standing_moved v k.1.0 rounds position m.0 m.1 t next m.2 a) in
          (r.0, r.1, subst (Standing G S r.0 r.1) (append_assoc t (v ∷ []) s) r.2)
