-- What the code answers and leaves is what `Calls` says: the test of a state, each call, a call by its number and its code, the reading.
-- Assumes nothing.
use Rattle.std.specs.Prelude.{◌≡◌, ℕ, suc, ◌+◌, ◌*◌, ◌<◌, ◌≤◌, Bool, true, false, ◌≢◌, List, ◌==◌, slice_set, Result, Ok, Err}
use Rattle.std.proofs.Math.Path.{refl, sym, ap, subst}
use Rattle.std.proofs.Common.{◌∙◌, lt-ltb, le-ltb, le-leb, eq-eqb, ne_eqb}
use native.Mathlib.Omega.{arith}
use Rattle.std.proofs.lemmas.Bool.{lt-leb}
use Rattle.loops.specs.Choice.{at, if, one_if, if_true, if_false, if_yes, if_no, not_true, not-false}
use Rattle.loops.specs.Sum.{sum, sum_same}
use Rattle.plan.specs.declared.Plan.{Plan}
use Rattle.plan.specs.Value.{edge_sum}
use Rattle.plan.specs.Tests.{synchronises, plan_fits}
use Rattle.counting.specs.Modular.{reading_printed}
use Rattle.plan.specs.Faults.{InShape}
use Rattle.plan.specs.Formed.{formed}
use Rattle.formula.specs.Lists.{raised_in}
use Rattle.ranges.specs.Range.{out_of_range}
use Rattle.rows.specs.Lists.{spot, next_in, row_left, with_row}
use Rattle.refusals.specs.Numbers.{open_number, look_number, fire_number, call_number}
use Rattle.refusals.specs.declared.Reason.{Reason}
use Rattle.refusals.specs.declared.Reason.TheVariants.{UnknownProcess, AlreadyOpen, Closed, NotMarked, MarksLeft, OutOfShape, UnknownCode, NotSynchronising}
use Rattle.refusals.specs.declared.Call.{Call}
use Rattle.refusals.specs.declared.Call.TheVariants.{Open, Look, Fire}
use Rattle.refusals.specs.declared.Request.{Request}
use Rattle.refusals.specs.Reasons.{number_of, Allows}
use Rattle.refusals.specs.Known.{open_known, look_known, fire_known}
use Rattle.seats.specs.Crossing.{crossing_table}
use Rattle.seats.specs.Laws.{crossing_at}
use Rattle.state.specs.declared.State.{State}
use Rattle.machine.specs.Answers.{Turned, Began, Level, Opened, Found, Wait, Fired, Refused, Tokens, Unread, replied}
use Rattle.machine.specs.ByTest.{one_if_true, one_if_false}
use Rattle.machine.specs.Replies.{turned}
use Rattle.machine.specs.States.{state_with, next_node, fresh, StateInShape}
use Rattle.machine.specs.Calls.{b_of, edge_found, raised, to_see, opened_state, do_open, marks_left, with_marks, found_state, do_look, next_position, fired_state, do_fire, refused, unless_refused, open_in_shape, look_in_shape, fire_in_shape, row_excess, position_bad, opened_bad, counter_bad, state_fits, both_fit, begin_run, open_call, look_call, fire_call, step_in_shape, step_call, reading_in_shape, reading_call}
use Rattle.machine.specs.CallCases.{accepts}
use Rattle.machine.specs.Same.{raised_state, stored_same, row_of, row_at}

-- ---- the test of a state
module _ (pl : Plan) (st : State) where
  -- how many entries are out of range
  abbrev positions_bad : ℕ
  positions_bad = sum (λ p. one_if (out_of_range (at pl.lengths) pl.processes st.positions p)) 64

  abbrev flags_bad : ℕ
  flags_bad = sum (λ p. one_if (out_of_range (λ k. 2) pl.processes st.opened p)) 64

  abbrev counters_bad : ℕ
  counters_bad = sum (λ c. one_if (out_of_range (λ k. pl.modulus) pl.counters st.counters c)) 64

  pub fits_by_marks : (fits : Bool) → positions_bad ≡ 0 → flags_bad ≡ 0 → counters_bad ≡ 0 → fits ≡ (sum (row_excess pl st) 64 == 0)
      → fits ≡ state_fits pl st
  unfolding state_fits position_bad opened_bad counter_bad
  fits_by_marks fits a b c m =
      if_no _ _ _ _ (le-ltb 0 positions_bad (omega arith))
      (if_no _ _ _ _ (le-ltb 0 flags_bad (omega arith)) (if_no _ _ _ _ (le-ltb 0 counters_bad (omega arith)) m))

  pub bad_position : (fits : Bool) → fits ≡ false → positions_bad ≢ 0 → fits ≡ state_fits pl st
  unfolding state_fits position_bad
  bad_position fits f h = if_yes _ _ _ _ (lt-ltb 0 positions_bad (omega arith)) f

  pub bad_flag : (fits : Bool) → fits ≡ false → positions_bad ≡ 0 → flags_bad ≢ 0 → fits ≡ state_fits pl st
  unfolding state_fits position_bad opened_bad
  bad_flag fits f a h = if_no _ _ _ _ (le-ltb 0 positions_bad (omega arith)) (if_yes _ _ _ _ (lt-ltb 0 flags_bad (omega arith)) f)

  pub bad_counter : (fits : Bool) → fits ≡ false → positions_bad ≡ 0 → flags_bad ≡ 0 → counters_bad ≢ 0 → fits ≡ state_fits pl st
  unfolding state_fits position_bad opened_bad counter_bad
  bad_counter fits f a b h =
      if_no _ _ _ _ (le-ltb 0 positions_bad (omega arith))
      (if_no _ _ _ _ (le-ltb 0 flags_bad (omega arith)) (if_yes _ _ _ _ (lt-ltb 0 counters_bad (omega arith)) f))

-- ---- the next position
pub last_goes : (position length : ℕ) → position + 1 ≡ length → 0 ≡ next_position position length
unfolding next_position
last_goes position length e = if_yes (suc position == length) _ _ _ (eq-eqb (suc position) length (omega arith)) refl

pub others_go : (position length : ℕ) → (position + 1 ≢ length) → position + 1 ≡ next_position position length
unfolding next_position
others_go position length d = if_no (suc position == length) _ _ _ (ne_eqb (suc position) length (λ e. d (omega arith))) (omega arith)

-- ---- what each call answers and leaves
module _ (pl : Plan) (st : State) (p : ℕ) where
  -- open
  pub opened_step : (shape : InShape pl) (node count : ℕ) (row marks : List ℕ) (after : State) → node ≡ next_in pl.order pl.lengths st.positions p
      → row ≡ row_of pl node → marks ≡ with_row st.marks (at row) pl.edges p
      → after ≡ raised_state (state_with st.positions (slice_set st.opened p 1) marks st.counters st.turn) → count ≡ sum (at row) pl.edges
      → turned (Opened count) after ≡ do_open pl st p
  unfolding do_open opened_state next_node with_marks
  opened_step shape node count row marks after a b c d f =
      let same : (e : ℕ) → e < pl.edges → at row e ≡ one_if (to_see pl (next_in pl.order pl.lengths st.positions p) e)
      = λ e h. rw (b, a) (row_at pl (formed pl shape).tables _ e h)
      in
      let total = f ∙ sum_same _ _ pl.edges same in
      let kept = c ∙ stored_same _ _ (512 * p) st.marks pl.edges same in
      ap (turned (Opened count)) d
      ∙ (λ i. turned (Opened (total i)) (state_with st.positions (slice_set st.opened p 1) (kept i) st.counters (raised st.turn)))

  -- look
  module _ (e left : ℕ) (after : State) (found : Bool) (f : found ≡ edge_found pl st e) where
    pub found_step : found ≡ true → after ≡ raised_state st → left ≡ row_left (slice_set after.marks (spot p e) 0) p
        → turned (Found left) (state_with after.positions after.opened (slice_set after.marks (spot p e) 0) after.counters after.turn) ≡ do_look pl st p e
    unfolding do_look found_state with_marks marks_left
    found_step y a b = if_yes _ _ _ _ (sym f ∙ y) (rw (b, a) refl)

    pub waited_step : found ≡ false → after ≡ raised_state st → left ≡ row_left after.marks p → turned (Wait left) after ≡ do_look pl st p e
    unfolding do_look with_marks marks_left
    waited_step n a b = if_no _ _ _ _ (sym f ∙ n) (rw (b, a) refl)

  -- fire
  pub fired_step : (node v number position : ℕ) (counters : List ℕ) (after : State) → node ≡ next_in pl.order pl.lengths st.positions p
      → position ≡ next_position (at st.positions p) (at pl.lengths p) → v ≡ node → counters ≡ raised_in pl.counter pl.increment st.counters pl.modulus v
      → after ≡ raised_state (state_with (slice_set st.positions p position) (slice_set st.opened p 0) st.marks counters st.turn) → number ≡ node
      → turned (Fired number) after ≡ do_fire pl st p
  unfolding do_fire fired_state next_node with_marks
  fired_step node v number position counters after a b c d f g = rw (f, g, d, c, b, a) refl

-- ---- a call, by its number and its code
module _ (st : State) (n : ℕ) where
  turned_down : (number : ℕ) (t : Turned) → n ≡ number → 0 < n → refused n st ≡ unless_refused number st t
  unfolding unless_refused
  turned_down number t e h = if_no _ _ _ _ (ne_eqb number 0 (λ z. omega arith)) (ap (λ k. refused k st) e)

  by_code : (a b c : Bool) (number_0 number_1 number_2 : ℕ) (opens looks fires : Turned) → n ≡ if a number_0 (if b number_1 (if c number_2 26)) → 0 < n
      → refused n st ≡ if a (unless_refused number_0 st opens) (if b (unless_refused number_1 st looks) (if c (unless_refused number_2 st fires) (refused 26 st)))
  unfolding if
  by_code true b c number_0 number_1 number_2 opens looks fires e h = turned_down number_0 opens e h
  by_code false true c number_0 number_1 number_2 opens looks fires e h = turned_down number_1 looks e h
  by_code false false true number_0 number_1 number_2 opens looks fires e h = turned_down number_2 fires e h
  by_code false false false number_0 number_1 number_2 opens looks fires e h = ap (λ k. refused k st) e

-- a reason has a number
number_some : (reason : Reason) → 0 < number_of reason
number_some UnknownProcess = omega arith
number_some AlreadyOpen = omega arith
number_some Closed = omega arith
number_some NotMarked = omega arith
number_some MarksLeft = omega arith
number_some OutOfShape = omega arith
number_some UnknownCode = omega arith
number_some NotSynchronising = omega arith

module _ (pl : Plan) (st : State) (r : Request) where
  abbrev Allowed : Result Call Reason → Type 0
  Allowed = Allows pl.processes pl.edges st.opened st.marks r

  abbrev Steps : Turned → Type 0
  Steps t = t ≡ step_in_shape pl st r.code r.process r.edge

  -- turned down
  pub refused_step : (reason : Reason) → Allowed (Err reason) → Steps (turned (replied (Err reason)) st)
  unfolding call_number step_in_shape open_in_shape look_in_shape fire_in_shape refused
  refused_step reason q =
      by_code st (number_of reason) (r.code == 0) (r.code == 1) (r.code == 2) _ _ _ (do_open pl st r.process) (do_look pl st r.process r.edge)
      (do_fire pl st r.process) q (number_some reason)

  -- not turned down: the call's process and its edge are known
  module _ (asked : Call) (allowed : Allowed (Ok asked)) where
    module _ (p : ℕ) (is : asked ≡ Open p) where
      an_open : (open_number pl.processes st.opened p ≡ 0) × (open_in_shape pl st p ≡ step_in_shape pl st r.code r.process r.edge)
      unfolding call_number step_in_shape
      an_open =
          let a : Allowed (Ok (Open p)) = subst (λ k. Allowed (Ok k)) is allowed in
          let y = eq-eqb r.code 0 a.1.0 in
          rw (← a.1.1) (sym (if_true (r.code == 0) _ _ y) ∙ a.0, sym (if_true (r.code == 0) _ _ y))

      pub opens : InShape pl × StateInShape pl st → InShape pl × StateInShape pl st × (p < pl.processes)
      opens s = (s.0, s.1, ((open_known pl.processes st.opened p).0 an_open.0).0)

      pub open_step : (t : Turned) → t ≡ do_open pl st p → Steps t
      unfolding open_in_shape
      open_step t q = q ∙ sym (accepts _ st _ an_open.0) ∙ an_open.1

    module _ (p e : ℕ) (is : asked ≡ Look p e) where
      a_look : (look_number pl.processes pl.edges st.opened st.marks p e ≡ 0) × (look_in_shape pl st p e ≡ step_in_shape pl st r.code r.process r.edge)
      unfolding call_number step_in_shape
      a_look =
          let a : Allowed (Ok (Look p e)) = subst (λ k. Allowed (Ok k)) is allowed in
          let n = ne_eqb r.code 0 (λ y. omega (arith, a.1.0)) in
          let y = eq-eqb r.code 1 a.1.0 in
          rw (← a.1.1, ← a.1.2)
          (sym (if_false (r.code == 0) _ _ n ∙ if_true (r.code == 1) _ _ y) ∙ a.0, sym (if_false (r.code == 0) _ _ n ∙ if_true (r.code == 1) _ _ y))

      pub looks : InShape pl × StateInShape pl st → InShape pl × StateInShape pl st × (p < pl.processes) × (e < pl.edges)
      looks s = let k = (look_known pl.processes st.opened p st.marks pl.edges e).0 a_look.0 in (s.0, s.1, k.0, k.2)

      pub look_step : (t : Turned) → t ≡ do_look pl st p e → Steps t
      unfolding look_in_shape
      look_step t q = q ∙ sym (accepts _ st _ a_look.0) ∙ a_look.1

    module _ (p : ℕ) (is : asked ≡ Fire p) where
      a_fire : (fire_number pl.processes st.opened st.marks p ≡ 0) × (fire_in_shape pl st p ≡ step_in_shape pl st r.code r.process r.edge)
      unfolding call_number step_in_shape
      a_fire =
          let a : Allowed (Ok (Fire p)) = subst (λ k. Allowed (Ok k)) is allowed in
          let m = ne_eqb r.code 0 (λ y. omega (arith, a.1.0)) in
          let n = ne_eqb r.code 1 (λ y. omega (arith, a.1.0)) in
          let y = eq-eqb r.code 2 a.1.0 in
          rw (← a.1.1) (
            sym (if_false (r.code == 0) _ _ m ∙ if_false (r.code == 1) _ _ n ∙ if_true (r.code == 2) _ _ y) ∙ a.0,
            sym (if_false (r.code == 0) _ _ m ∙ if_false (r.code == 1) _ _ n ∙ if_true (r.code == 2) _ _ y),
          )

      pub fires : InShape pl × StateInShape pl st → InShape pl × StateInShape pl st × (p < pl.processes)
      fires s = (s.0, s.1, ((fire_known pl.processes st.opened p st.marks).0 a_fire.0).0)

      pub fire_step : (t : Turned) → t ≡ do_fire pl st p → Steps t
      unfolding fire_in_shape
      fire_step t q = q ∙ sym (accepts _ st _ a_fire.0) ∙ a_fire.1

-- ---- the reading
-- of an edge that is not known
pub unknown_edge : (pl : Plan) (st : State) (e edges : ℕ) → edges ≡ pl.edges → edges ≤ e → Unread 27 ≡ reading_in_shape pl st e
unfolding reading_in_shape
unknown_edge pl st e edges f h = if_yes _ _ _ _ (le-leb pl.edges e (omega arith)) refl

-- and of one that is
module _ (pl : Plan) (st : State) (e r : ℕ) (row : List ℕ) (shape : InShape pl) (f : row ≡ crossing_table pl) (h : e < pl.edges) where
  entry : at row e ≡ one_if (synchronises pl e)
  entry = ap (λ l. at l e) f ∙ crossing_at pl (formed pl shape).tables e (omega arith)

  pub reading_turn :
      r ≡ reading_printed (edge_sum pl e) pl.modulus (at pl.tokens e) (b_of pl st (at pl.source e)) (b_of pl st (at pl.destination e))
      → at row e ≡ 1 → Tokens r ≡ reading_in_shape pl st e
  unfolding reading_in_shape
  reading_turn a b =
      if_no _ _ _ _ (lt-leb pl.edges e (omega arith)) (if_yes _ _ _ _ (not-false _ (λ q. omega (arith, entry, one_if_false _ q))) (ap Tokens a))

  pub no_reading : (at row e ≢ 1) → Unread 27 ≡ reading_in_shape pl st e
  unfolding reading_in_shape
  no_reading b =
      if_no _ _ _ _ (lt-leb pl.edges e (omega arith)) (if_no _ _ _ _ (not_true _ (λ q. b (omega (arith, entry, one_if_true _ q)))) refl)

-- ---- plan and state tested
module _ (pl : Plan) (st : State) (fits : Bool) where
  pub both_by_state : plan_fits pl ≡ true → fits ≡ state_fits pl st → fits ≡ both_fit pl st
  unfolding both_fit
  both_by_state y q = if_yes _ _ _ _ y q

  pub plan_unfit : plan_fits pl ≡ false → fits ≡ false → fits ≡ both_fit pl st
  unfolding both_fit
  plan_unfit n q = if_no _ _ _ _ n q

-- ---- a call, its plan and its state tested first
module _ (pl : Plan) (st : State) (code p e : ℕ) where
  pub answers_26 : 2 < code → turned (Refused 26) st ≡ step_call pl st code p e
  unfolding step_call refused
  answers_26 h = if_yes _ _ _ _ (lt-ltb 2 code h) refl

  module _ (h : code ≤ 2) where
    pub answers : (t : Turned) → both_fit pl st ≡ true → t ≡ step_in_shape pl st code p e → t ≡ step_call pl st code p e
    unfolding step_call
    answers t y q = if_no _ _ _ _ (le-ltb 2 code h) (if_yes _ _ _ _ y q)

    pub answers_25 : both_fit pl st ≡ false → turned (Refused 25) st ≡ step_call pl st code p e
    unfolding step_call refused
    answers_25 y = if_no _ _ _ _ (le-ltb 2 code h) (if_no _ _ _ _ y refl)

-- a call of each code
module _ (pl : Plan) (st : State) (p e : ℕ) where
  pub open_is : step_call pl st 0 p e ≡ open_call pl st p
  unfolding open_call step_call step_in_shape if
  open_is = refl

  pub look_is : step_call pl st 1 p e ≡ look_call pl st p e
  unfolding look_call step_call step_in_shape if
  look_is = refl

  pub fire_is : step_call pl st 2 p e ≡ fire_call pl st p
  unfolding fire_call step_call step_in_shape if
  fire_is = refl

-- a reading
module _ (pl : Plan) (st : State) (e : ℕ) where
  pub reads : (l : Level) → both_fit pl st ≡ true → l ≡ reading_in_shape pl st e → l ≡ reading_call pl st e
  unfolding reading_call
  reads l y q = if_yes _ _ _ _ y q

  pub reads_25 : both_fit pl st ≡ false → Unread 25 ≡ reading_call pl st e
  unfolding reading_call
  reads_25 y = if_no _ _ _ _ y refl

-- ---- beginning
pub begun : (pl : Plan) (st : State) → st ≡ fresh → plan_fits pl ≡ true → ◌≡◌ {A = Began} (record { number = 0; state = st }) (begin_run pl)
unfolding begin_run
begun pl st a c = if_yes _ _ _ _ c (rw a)

pub begun_not : (pl : Plan) (st : State) → st ≡ fresh → plan_fits pl ≡ false → ◌≡◌ {A = Began} (record { number = 25; state = st }) (begin_run pl)
unfolding begin_run
begun_not pl st a c = if_no _ _ _ _ c (rw a)
