-- A process whose next node may fire in the marked graph, called alone, fires it: one open, one look at each edge to see, one fire.
-- Assumes nothing.
use Rattle.std.specs.Prelude.{◌≡◌, ◌≢◌, ℕ, ◌<◌, length}
use Rattle.std.proofs.Math.Path.{refl, ap, ap₂}
use Rattle.std.proofs.Common.{sym, ◌∙◌, subst, arith}
use Rattle.std.proofs.Math.Bool.{true, false}
use mathlib.Core.List.{List, [], ◌∷◌, ◌++◌}
use Rattle.std.proofs.Math.Logic.{inl, inr}
use Rattle.std.proofs.Math.Decide.{ℕ_discrete}
use borrow.Author.Tests.{eq-eqb, ne_eqb}
use Rattle.std.proofs.Math.Dec.{eqb}
use Rattle.loops.specs.Choice.{at, if_true, if_false}
use Rattle.net.specs.Graph.{Fireable, firings}
use Rattle.net.specs.Tables.{graph_of_tables}
use Rattle.net.specs.Counts.{same_or_not}
use Rattle.plan.specs.declared.Plan.{Plan}
use Rattle.plan.specs.Value.{graph_of, node_at}
use Rattle.judge.specs.Sound.{Sound}
use Rattle.state.specs.declared.State.{State}
use Rattle.machine.specs.Answers.{Opened, Found, Fired}
use Rattle.machine.specs.States.{mark, next_node}
use Rattle.machine.specs.Calls.{edge_found, marks_left, opened_state, with_marks, found_state, do_look, do_fire}
use Rattle.machine.specs.Runs.{turn, replies, last_state}
use Rattle.machine.specs.Replies.{turned}
use Rattle.machine.specs.CallCases.{look_turn, fire_turn, look_accepted, fire_accepted}
use Rattle.machine.specs.Marks.{found_mark, found_mark_other}
use Rattle.machine.specs.ShapeParts.{MarkMeans}
use Rattle.machine.specs.ShapeKept.{kept_fits}
use Rattle.follow.specs.PlanSeats.{tables}
use Rattle.follow.specs.Meaning.{tokens_after}
use Rattle.follow.specs.StandsFor.{Follows}
use Rattle.follow.specs.EdgeTest.{found_exactly}
use Rattle.follow.specs.FollowsCalls.{open_follows, found_follows}
use Rattle.machine.specs.OpenExact.{opens, is_open}
use Rattle.follow.specs.LookExact.{end_next}
use Rattle.follow.proofs.Listed.{listed_first, listed_length}
use Rattle.follow.specs.RunLaws.{replies_append, replies_first, last_first, replies_none, last_none}
use Rattle.follow.specs.DriveCalls.{to_open, to_look, to_fire, opening, looks, drive, YetToSee, opening_answers, look_answers, drive_answers, Listed}

module _ (pl : Plan) (sound : Sound pl) (s : List ℕ) (p : ℕ) (h : p < pl.processes) where
  -- the process's next node may fire
  abbrev MayFire : State → Type 0
  MayFire st = Fireable (graph_of pl) (tokens_after pl s) (next_node pl st p)

  -- ---- one look
  module _ (st : State) (f : Follows pl sound st s) (e : ℕ) (es : List ℕ) (l : Listed (mark st p) 512 (e ∷ es)) where
    -- the edge's mark is 1
    marked_one : mark st p e ≡ 1
    marked_one = let t = listed_first l in omega (arith, t.1, (f.kept.parts.marks p (omega (arith, (tables pl sound).counts)) e t.0).flag)

    -- and says what it should
    means : MarkMeans pl st p e
    means = (f.kept.parts.marks p (omega (arith, (tables pl sound).counts)) e (listed_first l).0).means (λ z. omega (arith, marked_one))

    -- without it the rest is yet to see
    rest_listed : Listed (mark (found_state st p e) p) 512 es
    unfolding firings
    rest_listed =
        record {
          each = λ g k.
              elim (same_or_not g e) [
                | inl q ↦
                    let gone = found_mark pl st f.kept.sized p e (omega (arith, (tables pl sound).counts)) first in
                    omega (arith, ap (mark (found_state st p e) p) q.0, ap (mark st p) q.0, l.each g k, marked_one)
                | inr q ↦ omega (arith, l.each g k, found_mark_other pl st f.kept.sized p e p g first k (λ y. q.0))
              ];
          past = λ g k. omega (arith, l.past g k);
        }
      where
        first : e < 512
        first = (listed_first l).0

    -- where the next node may fire, it is found
    look_finds : MayFire st → turn pl st (to_look p e) ≡ record { reply = Found (length es); state = found_state st p e }
    unfolding Fireable do_look marks_left graph_of graph_of_tables
    look_finds may =
        let known = means.synchronising.known in
        let found = (found_exactly pl sound st s f e means.synchronising (end_next pl sound st s f p e h means.next)).1 (may e known means.next) in
        look_turn pl st (kept_fits pl sound.shape st f.kept) (to_look p e) refl
        ∙ look_accepted pl st p h e (λ z. omega (arith, means.is_open)) known marked_one
        ∙ if_true (edge_found pl st e) _ _ found
        ∙ ap (λ n. turned (Found n) (found_state st p e)) (listed_length rest_listed)

    -- and its mark goes
    look_follows : MayFire st → Follows pl sound (found_state st p e) s
    unfolding Fireable graph_of graph_of_tables
    look_follows may =
        let known = means.synchronising.known in
        found_follows pl sound st s f p e h known
        ((found_exactly pl sound st s f e means.synchronising (end_next pl sound st s f p e h means.next)).1 (may e known means.next))

  -- ---- the looks
  record Swept (st : State) (es : List ℕ) (end : State) : Type 0 where
    answers : replies pl st (looks p es) ≡ look_answers es
    ends : last_state pl st (looks p es) ≡ end
    follows : Follows pl sound end s
    opened_stays : end.opened ≡ st.opened
    positions_stay : end.positions ≡ st.positions
    none_left : marks_left end p ≡ 0

  sweep : (es : List ℕ) (st : State) → Follows pl sound st s → MayFire st → Listed (mark st p) 512 es → (end : State) × Swept st es end
  unfolding looks look_answers marks_left found_state with_marks next_node
  sweep [] st f may l = (
    st,
    record { answers = replies_none pl st; ends = last_none pl st; follows = f; opened_stays = refl; positions_stay = refl; none_left = listed_length l },
  )
  sweep (e ∷ es) st f may l =
      let t = turned (Found (length es)) (found_state st p e) in
      let found = look_finds st f e es l may in
      let r = sweep es (found_state st p e) (look_follows st f e es l may) may (rest_listed st f e es l) in (
        r.0,
        record {
          answers = replies_first pl (to_look p e) (looks p es) st t found ∙ ap (Found (length es) ∷◌) r.1.answers;
          ends = last_first pl (to_look p e) (looks p es) st t found ∙ r.1.ends;
          follows = r.1.follows;
          opened_stays = r.1.opened_stays;
          positions_stay = r.1.positions_stay;
          none_left = r.1.none_left;
        },
      )

  -- ---- the looks and the fire
  swept_answers : (es : List ℕ) (st : State) → Follows pl sound st s → MayFire st → at st.opened p ≢ 0 → Listed (mark st p) 512 es
      → replies pl st (looks p es ++ (to_fire p ∷ [])) ≡ look_answers es ++ (Fired (next_node pl st p) ∷ [])
  unfolding do_fire next_node node_at
  swept_answers es st f may o l =
      let r = sweep es st f may l in
      let end = r.0 in
      let w = r.1 in
      let fired : turn pl end (to_fire p) ≡ do_fire pl end p =
      fire_turn pl end (kept_fits pl sound.shape end w.follows.kept) (to_fire p) refl
      ∙ fire_accepted pl end p h (λ z. o (ap (λ k. at k p) (sym w.opened_stays) ∙ z)) w.none_left in
      replies_append pl (looks p es) (to_fire p ∷ []) st
      ∙ ap₂ (λ rs st. rs ++ replies pl st (to_fire p ∷ [])) w.answers w.ends
      ∙ ap (look_answers es ++◌)
      (replies_first pl (to_fire p) [] end (do_fire pl end p) fired
      ∙ ap₂ (λ v rs. Fired v ∷ rs) (ap (λ k. node_at pl p (at k p)) w.positions_stay) (replies_none pl _))

  -- ---- the open
  open_answers : (st : State) → Follows pl sound st s → at st.opened p ≡ 0 → (es : List ℕ) → Listed (mark (opened_state pl st p) p) 512 es
      → turn pl st (to_open p) ≡ turned (Opened (length es)) (opened_state pl st p)
  unfolding marks_left
  open_answers st f z es l =
      opens pl sound.shape st f.kept p h z (to_open p) refl refl ∙ ap (λ n. turned (Opened n) (opened_state pl st p)) (listed_length l)

  -- the state in which the process is open
  opened_up : (st : State) → Follows pl sound st s → at st.opened p ≡ 0 → last_state pl st (to_open p ∷ []) ≡ opened_state pl st p
  opened_up st f z =
      last_first pl (to_open p) [] st (turned (Opened (marks_left (opened_state pl st p) p)) (opened_state pl st p))
      (opens pl sound.shape st f.kept p h z (to_open p) refl refl)
      ∙ last_none pl (opened_state pl st p)

  -- the open, the looks and the fire
  opened_answers : (st : State) → Follows pl sound st s → MayFire st → at st.opened p ≡ 0
      → (es : List ℕ) → Listed (mark (opened_state pl st p) p) 512 es
      → replies pl st (to_open p ∷ (looks p es ++ (to_fire p ∷ []))) ≡ Opened (length es) ∷ (look_answers es ++ (Fired (next_node pl st p) ∷ []))
  unfolding next_node opened_state
  opened_answers st f may z es l =
      replies_first pl (to_open p) (looks p es ++ (to_fire p ∷ [])) st (turned (Opened (length es)) (opened_state pl st p)) (open_answers st f z es l)
      ∙ ap (Opened (length es) ∷◌)
      (swept_answers es (opened_state pl st p) (open_follows pl sound st s f p h) may (λ y. omega (arith, is_open pl sound.shape st f.kept p h)) l)

  -- ---- all of it
  pub drive_replies : (st : State) → Follows pl sound st s → MayFire st → (es : List ℕ) → YetToSee pl st p es
      → replies pl st (drive st p es) ≡ drive_answers st p es (next_node pl st p)
  unfolding drive drive_answers opening opening_answers
  drive_replies st f may es l =
      elim (ℕ_discrete (at st.opened p) 0) [
        | yes z ↦
            let closed : eqb (at st.opened p) 0 ≡ true = eq-eqb (at st.opened p) 0 z in
            let calls = if_true (eqb (at st.opened p) 0) (to_open p ∷ []) [] closed in
            let answers = if_true (eqb (at st.opened p) 0) (Opened (length es) ∷ []) [] closed in
            ap (λ cs. replies pl st (cs ++ (looks p es ++ (to_fire p ∷ [])))) calls
            ∙ opened_answers st f may z es (subst (λ x. Listed (mark x p) 512 es) (ap (last_state pl st) calls ∙ opened_up st f z) l)
            ∙ ap (◌++ (look_answers es ++ (Fired (next_node pl st p) ∷ []))) (sym answers)
        | no z ↦
            let open_already : eqb (at st.opened p) 0 ≡ false = ne_eqb (at st.opened p) 0 z in
            let calls = if_false (eqb (at st.opened p) 0) (to_open p ∷ []) [] open_already in
            let answers = if_false (eqb (at st.opened p) 0) (Opened (length es) ∷ []) [] open_already in
            ap (λ cs. replies pl st (cs ++ (looks p es ++ (to_fire p ∷ [])))) calls
            ∙ swept_answers es st f may z (subst (λ x. Listed (mark x p) 512 es) (ap (last_state pl st) calls ∙ last_none pl st) l)
            ∙ ap (◌++ (look_answers es ++ (Fired (next_node pl st p) ∷ []))) (sym answers)
      ]
