-- What the calls answer and mark on a plan and a state in shape, reached or made up.
-- Assumes nothing.
use Rattle.std.specs.Prelude.{◌≡◌, ℕ, ◌<◌, true, ◌≢◌, ◌⊎◌, ◌↔◌}
use Rattle.std.proofs.Math.Path.{refl, sym, ap, subst}
use Rattle.std.proofs.Common.{◌∙◌, arith}
use Rattle.std.proofs.Math.Logic.{inl, inr}
use Rattle.loops.specs.Choice.{at, one_if}
use Rattle.loops.specs.Sum.{sum}
use Rattle.plan.specs.declared.Plan.{Plan}
use Rattle.plan.specs.Faults.{InShape}
use Rattle.plan.specs.Formed.{formed}
use Rattle.state.specs.declared.State.{State}
use Rattle.machine.specs.Answers.{Opened, Found, Wait, Fired}
use Rattle.machine.specs.Answers.{Turned}
use Rattle.machine.specs.States.{mark, next_node, Sized, StateInShape}
use Rattle.machine.specs.Calls.{edge_found, to_see, marks_left, with_marks, do_look, do_fire, refused, both_fit}
use Rattle.machine.specs.Runs.{Call, turn}
use Rattle.machine.specs.ByTest.{if_either, sum_zero}
use Rattle.machine.specs.Replies.{same_found, same_wait, same_fired, found_not_wait, refused_not_fired, refused_not_found, refused_not_wait}
use Rattle.machine.specs.CallCases.{look_turn, fire_turn, look_cases, fire_cases, fire_accepted}
use Rattle.machine.specs.Marks.{found_mark_other}
use Rattle.machine.specs.KeptByCalls.{Kept}
use Rattle.machine.specs.ShapeKept.{kept_exactly, kept_fits}
use Rattle.machine.specs.OpenExact.{OpenExact, open_is_exact, open_left, opens}

-- "answers … how many are left": the number that an answer found or wait says
abbrev pub Left : Turned → ℕ → Type 0
Left t left = (t.reply ≡ Found left) ⊎ (t.reply ≡ Wait left)

-- "a process's row": none of its marks is left exactly where each is 0
pub none_left : (st : State) (p : ℕ) → (marks_left st p ≡ 0) ↔ ((e : ℕ) → e < 512 → mark st p e ≡ 0)
unfolding marks_left
none_left st p = sum_zero (mark st p) 512

module _ (st : State) (p : ℕ) where
  -- a look that waits leaves the marks
  pub marks_stay : marks_left (with_marks st st.marks) p ≡ marks_left st p
  unfolding marks_left with_marks
  marks_stay = refl

  -- one mark at most is another than before
  OneMark : ℕ → Turned → Type 0
  OneMark e t = (r f : ℕ) → f < 512 → (r ≡ p → f ≢ e) → mark t.state r f ≡ mark st r f

  -- a number of edges left is the row's number of marks
  LeftIs : Turned → Type 0
  LeftIs t = (left : ℕ) → Left t left → left ≡ marks_left t.state p

  refused_one : (e number : ℕ) → OneMark e (refused number st)
  unfolding OneMark refused
  refused_one e number r f k d = refl

  refused_left : (number : ℕ) → LeftIs (refused number st)
  unfolding LeftIs refused
  refused_left number left q = elim q [ inl y ↦ absurd (refused_not_found refl y) | inr y ↦ absurd (refused_not_wait refl y) ]

  looks_one : (pl : Plan) → Sized st → (e : ℕ) → e < 512 → OneMark e (do_look pl st p e)
  unfolding OneMark do_look with_marks
  looks_one pl sized e h =
      if_either (OneMark e) (edge_found pl st e) _ _ (λ t r f k d. found_mark_other pl st sized p e r f h k d) (λ t r f k d. refl)

  looks_left : (pl : Plan) (e : ℕ) → LeftIs (do_look pl st p e)
  unfolding LeftIs do_look
  looks_left pl e =
      if_either LeftIs (edge_found pl st e) _ _
      (λ t left q. elim q [ inl y ↦ same_found refl y | inr y ↦ absurd (found_not_wait refl y) ])
      (λ t left q. elim q [ inl y ↦ absurd (found_not_wait y refl) | inr y ↦ same_wait refl y ∙ sym marks_stay ])

module _ (pl : Plan) (shape : InShape pl) (st : State) (ok : StateInShape pl st) (sized : Sized st) where
  kept : Kept pl st
  kept = (kept_exactly pl shape st).1 (ok, sized)

  fits : both_fit pl st ≡ true
  fits = kept_fits pl shape st kept

  -- "Open p: marks the synchronising in-edges of p's next node; answers how many."
  pub open_exactly : (c : Call) → c.code ≡ 0 → c.process < pl.processes → at st.opened c.process ≡ 0
      → OpenExact pl st c.process (turn pl st c)
      × ((turn pl st c).reply ≡ Opened (sum (λ e. one_if (to_see pl (next_node pl st c.process) e)) pl.edges))
  open_exactly c code h z =
      let p = c.process in (
        open_is_exact pl shape st kept p h z c code refl,
        ap (λ t. t.reply) (opens pl shape st kept p h z c code refl) ∙ ap Opened (open_left pl shape st kept p h),
      )

  module _ (c : Call) (code : c.code ≡ 1) where
    -- "Found: the mark goes. Wait: marks stay.": at most one mark changes
    pub look_one_mark : (r f : ℕ) → f < 512 → (r ≡ c.process → f ≢ c.edge) → mark (turn pl st c).state r f ≡ mark st r f
    unfolding OneMark
    look_one_mark =
        let p = c.process in
        let e = c.edge in
        subst (OneMark st p e) (sym (look_turn pl st fits c code))
        (look_cases pl st (OneMark st p e) (λ number d. refused_one st p e number) p e
        (λ h o l m. looks_one st p pl sized e (omega (arith, (formed pl shape).tables.counts.edges_most))))

    -- "Answers found or wait, and how many are left."
    pub look_left : (left : ℕ) → Left (turn pl st c) left → left ≡ marks_left (turn pl st c).state c.process
    unfolding LeftIs
    look_left =
        let p = c.process in
        subst (LeftIs st p) (sym (look_turn pl st fits c code))
        (look_cases pl st (LeftIs st p) (λ number d. refused_left st p number) p c.edge (λ h o l m. looks_left st p pl c.edge))

  module _ (c : Call) (code : c.code ≡ 2) where
    -- an open flag is 1
    flag_is : (p : ℕ) → p < pl.processes → at st.opened p ≢ 0 → at st.opened p ≡ 1
    flag_is p h o = let f = ok.opened_flag p h in omega arith

    -- the node that an answer fired names, and what it says of the process
    pub fire_means : (v : ℕ) → (turn pl st c).reply ≡ Fired v
        → (c.process < pl.processes) × (at st.opened c.process ≡ 1) × (marks_left st c.process ≡ 0) × (v ≡ next_node pl st c.process)
    unfolding refused do_fire
    fire_means v q =
        let p = c.process in
        fire_cases pl st (λ t. t.reply ≡ Fired v → (p < pl.processes) × (at st.opened p ≡ 1) × (marks_left st p ≡ 0) × (v ≡ next_node pl st p))
        (λ number d r. absurd (refused_not_fired refl r)) p (λ h o z r. (h, flag_is p h o, z, same_fired refl r))
        (ap (λ t. t.reply) (sym (fire_turn pl st fits c code)) ∙ q)

    -- the answer where the process is open with no mark left
    pub fire_answers : c.process < pl.processes → at st.opened c.process ≢ 0 → marks_left st c.process ≡ 0
        → (turn pl st c).reply ≡ Fired (next_node pl st c.process)
    unfolding do_fire
    fire_answers h o z = ap (λ t. t.reply) (fire_turn pl st fits c code ∙ fire_accepted pl st c.process h o z)

    -- "A fire succeeds exactly when the process is open with no edge left to see."
    pub fire_exactly : ((v : ℕ) × ((turn pl st c).reply ≡ Fired v))
        ↔ ((c.process < pl.processes) × (at st.opened c.process ≡ 1) × (marks_left st c.process ≡ 0))
    fire_exactly = (
      λ w. let m = fire_means w.0 w.1 in (m.0, m.1, m.2),
      λ r. (next_node pl st c.process, fire_answers r.0 (λ y. omega (arith, r.1)) r.2),
    )
