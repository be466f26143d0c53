-- The starred lines of 01 under one theorem: the plans with their answers, and the run case of the last line; plan P's run. By computation.
-- Assumes nothing.
use Rattle.std.specs.Prelude.{◌≡◌, refl, true, ltb, length, List, [], ◌∷◌, map, ℕ, zero, suc}
use Rattle.std.proofs.Common.{sym, ap, ◌∙◌, arith, ltb-true, ne_eqb, inl, inr}
use Rattle.loops.specs.Choice.{if, both, either, one_if, if_true, if_false, true_or_false}
use Rattle.loops.specs.First.{first, first_of}
use Rattle.loops.specs.Any.{any, any_of}
use Rattle.loops.specs.Sum.{sum}
use Rattle.loops.specs.Row.{stored}
use Rattle.loops.specs.Table.{entries, padded}
use Rattle.counting.specs.Modular.{rounded_up, minus_modulo, finds}
use Rattle.plan.specs.declared.Plan.{Plan}
use Rattle.plan.specs.Faults.{InShape}
use Rattle.plan.specs.Value.{base, node_at, share, counter_sum, edge_sum}
use Rattle.plan.specs.Tests.{stands_at, order_position, ends_past, process_at, home_of, home, seat, synchronises}
use Rattle.judge.specs.Answer.{Answer}
use Rattle.judge.specs.Answer.{Accepted, Refused}
use Rattle.numerals.specs.LittleEndian.{two_bytes, four_bytes}
use Rattle.image.specs.Offsets.{order_start, node_start, edge_start}
use Rattle.image.specs.Image.{entry, tables_of, plan_of}
use Rattle.reader.specs.Plans.{as_two, as_four, all_as_two, image_of, like_P, edges_of_P, P, P_with_N_3, P_without_3_0, P_with_1_2_repeated, one_node, P_by_twos, P_with_0_0, ring, P_all_ones}
use Rattle.reader.specs.Tests.{verdict}
use Rattle.reader.specs.Starred.{starred_plans}
use Rattle.reader.specs.Theorems.{accepted_sound}
use Rattle.state.specs.declared.State.{State}
use Rattle.machine.specs.Answers.{Reply}
use Rattle.machine.specs.Answers as reply
use Rattle.formula.specs.Lists.{shares_in, earlier_in, b_in, raised_in}
use Rattle.refusals.specs.Numbers.{marked_in, open_number, look_number, fire_number}
use Rattle.machine.specs.States.{next_node, fresh}
use Rattle.machine.specs.Calls.{b_of, edge_found, raised, to_see, marks_left, opened_state, do_open, with_marks, found_state, do_look, next_position, fired_state, do_fire, refused, unless_refused, open_in_shape, look_in_shape, fire_in_shape, step_in_shape, both_fit, step_call}
use Rattle.machine.specs.Runs.{Call, turn, replies, last_state}
use Rattle.machine.specs.ShapeKept.{step_in_shape_kept, kept_fits, reached_kept}
use Rattle.machine.specs.KeptByCalls.{Kept}

-- calls by their codes
abbrev open_call : ℕ → Call
open_call p = record { code = 0; process = p; edge = 0 }

abbrev look_call : ℕ → ℕ → Call
look_call p e = record { code = 1; process = p; edge = e }

abbrev fire_call : ℕ → Call
fire_call p = record { code = 2; process = p; edge = 0 }

-- the answers to a list of calls where the shape is known: nothing is tested
unfoldable answers_in_shape : Plan → State → List Call → List Reply
answers_in_shape pl st [] = []
answers_in_shape pl st (c ∷ cs) =
    let t = step_in_shape pl st c.code c.process c.edge in
    t.reply ∷ answers_in_shape pl t.state cs

-- and the state after them
unfoldable end_in_shape : Plan → State → List Call → State
end_in_shape pl st [] = st
end_in_shape pl st (c ∷ cs) = end_in_shape pl (step_in_shape pl st c.code c.process c.edge).state cs

-- a call on a plan and a state in shape
in_shape : (pl : Plan) (st : State) (code p e : ℕ) → both_fit pl st ≡ true → step_call pl st code p e ≡ step_in_shape pl st code p e
unfolding step_call step_in_shape
in_shape pl st code p e h =
    elim (true_or_false (ltb 2 code)) [
      | inl y ↦
          let big = ltb-true 2 code y in
          if_true _ _ _ y
          ∙ sym (if_false _ _ _ (ne_eqb code 0 (λ q. omega arith)) ∙ if_false _ _ _ (ne_eqb code 1 (λ q. omega arith)) ∙ if_false _ _ _ (ne_eqb code 2 (λ q. omega arith)))
      | inr y ↦ if_false _ _ _ y ∙ if_true _ _ _ h
    ]

-- the run of a plan in shape needs no test
run_in_shape : (pl : Plan) (shape : InShape pl) (cs : List Call) (st : State) → Kept pl st
    → (replies pl st cs ≡ answers_in_shape pl st cs) × (last_state pl st cs ≡ end_in_shape pl st cs)
unfolding replies last_state turn answers_in_shape end_in_shape
run_in_shape pl shape [] st k = (refl, refl)
run_in_shape pl shape (c ∷ cs) st k =
    let e = in_shape pl st c.code c.process c.edge (kept_fits pl shape st k) in
    let t = step_in_shape pl st c.code c.process c.edge in
    let r = run_in_shape pl shape cs t.state (step_in_shape_kept pl shape st k c.code c.process c.edge) in (
      ap (λ u. u.reply ∷ replies pl u.state cs) e ∙ ap (t.reply ∷◌) r.0,
      ap (λ u. last_state pl u.state cs) e ∙ r.1,
    )

-- the answer at a place of the table
answer_at : List Answer → ℕ → Answer
answer_at [] k = Refused 0 0
answer_at (a ∷ l) zero = a
answer_at (a ∷ l) (suc k) = answer_at l k

all_ones_accepted : verdict P_all_ones ≡ Accepted 2 8 8
unfolding answer_at
all_ones_accepted = ap (λ l. answer_at l 11) starred_plans

P_accepted : verdict P ≡ Accepted 1 4 4
unfolding answer_at
P_accepted = ap (λ l. answer_at l 0) starred_plans

-- "fresh, open 1, look 1,2 waits"
all_ones_run : answers_in_shape (plan_of P_all_ones) fresh (open_call 1 ∷ look_call 1 2 ∷ []) ≡ reply.Opened 1 ∷ reply.Wait 1 ∷ []
unfolding answers_in_shape if both either one_if first first_of any any_of sum stored entries padded rounded_up minus_modulo finds base node_at share counter_sum edge_sum stands_at order_position ends_past process_at home_of home seat synchronises two_bytes four_bytes entry order_start node_start edge_start tables_of plan_of as_two as_four all_as_two image_of like_P edges_of_P P P_all_ones next_node fresh shares_in earlier_in b_in raised_in marked_in open_number look_number fire_number b_of edge_found raised to_see marks_left opened_state do_open with_marks found_state do_look next_position fired_state do_fire refused unless_refused open_in_shape look_in_shape fire_in_shape step_in_shape
all_ones_run = refl

-- "b(1) is 7 and rounds to 8"
all_ones_b : (b_of (plan_of P_all_ones) (end_in_shape (plan_of P_all_ones) fresh (open_call 1 ∷ look_call 1 2 ∷ [])) 1 ≡ 7)
    × (rounded_up (plan_of P_all_ones).q 7 ≡ 8)
unfolding end_in_shape if both either one_if first first_of any any_of sum stored entries padded rounded_up minus_modulo finds base node_at share counter_sum edge_sum stands_at order_position ends_past process_at home_of home seat synchronises two_bytes four_bytes entry order_start node_start edge_start tables_of plan_of as_two as_four all_as_two image_of like_P edges_of_P P P_all_ones next_node fresh shares_in earlier_in b_in raised_in marked_in open_number look_number fire_number b_of edge_found raised to_see marks_left opened_state do_open with_marks found_state do_look next_position fired_state do_fire refused unless_refused open_in_shape look_in_shape fire_in_shape step_in_shape
all_ones_b = (refl, refl)

P_run : answers_in_shape (plan_of P) fresh
    (open_call 0 ∷ look_call 0 4 ∷ fire_call 0 ∷ open_call 0 ∷ fire_call 0 ∷ open_call 1 ∷ look_call 1 2 ∷ look_call 1 2 ∷ fire_call 1 ∷ [])
    ≡ reply.Opened 1 ∷ reply.Found 0 ∷ reply.Fired 0 ∷ reply.Opened 0 ∷ reply.Fired 1 ∷ reply.Opened 1 ∷ reply.Found 0 ∷ reply.Refused 23 ∷ reply.Fired 2 ∷ []
unfolding answers_in_shape if both either one_if first first_of any any_of sum stored entries padded rounded_up minus_modulo finds base node_at share counter_sum edge_sum stands_at order_position ends_past process_at home_of home seat synchronises two_bytes four_bytes entry order_start node_start edge_start tables_of plan_of as_two as_four all_as_two image_of like_P edges_of_P P P_all_ones next_node fresh shares_in earlier_in b_in raised_in marked_in open_number look_number fire_number b_of edge_found raised to_see marks_left opened_state do_open with_marks found_state do_look next_position fired_state do_fire refused unless_refused open_in_shape look_in_shape fire_in_shape step_in_shape
P_run = refl

run_from : (s : List ℕ) (q n m : ℕ) → verdict s ≡ Accepted q n m → (cs : List Call)
    → (replies (plan_of s) fresh cs ≡ answers_in_shape (plan_of s) fresh cs) × (last_state (plan_of s) fresh cs ≡ end_in_shape (plan_of s) fresh cs)
unfolding last_state
run_from s q n m e cs = let shape = (accepted_sound s (q, n, m, e)).shape in run_in_shape (plan_of s) shape cs fresh (reached_kept (plan_of s) shape [])

-- the lengths of two of the images
lengths : (length P ≡ 100) × (length (one_node 1) ≡ 50)
unfolding as_two as_four all_as_two image_of like_P edges_of_P P one_node
lengths = (refl, refl)

-- the starred lines: every image's answer; "100 bytes" and "(50 bytes)"; the run of the last case, b(1) after it and what it rounds to
pub starred :
    (map verdict (
    P ∷ P_with_N_3 ∷ P_without_3_0 ∷ P_with_1_2_repeated ∷ one_node 1 ∷ one_node 0 ∷ P_by_twos 7 ∷ P_by_twos 6 ∷ P_with_0_0 ∷ ring 3 ∷ ring 4 ∷ P_all_ones ∷ []
    ) ≡ Accepted 1 4 4 ∷ Refused 16 2 ∷ Refused 14 2 ∷ Refused 8 3 ∷ Accepted 1 1 1 ∷ Refused 12 0 ∷ Refused 15 0 ∷ Refused 16 2 ∷ Refused 13 0 ∷ Refused 16 1
    ∷ Accepted 1 4 4 ∷ Accepted 2 8 8 ∷ [])
    × (length P ≡ 100)
    × (length (one_node 1) ≡ 50)
    × (replies (plan_of P_all_ones) fresh (open_call 1 ∷ look_call 1 2 ∷ []) ≡ reply.Opened 1 ∷ reply.Wait 1 ∷ [])
    × (b_of (plan_of P_all_ones) (last_state (plan_of P_all_ones) fresh (open_call 1 ∷ look_call 1 2 ∷ [])) 1 ≡ 7)
    × (rounded_up (plan_of P_all_ones).q 7 ≡ 8)
starred =
    let run = run_from P_all_ones 2 8 8 all_ones_accepted (open_call 1 ∷ look_call 1 2 ∷ []) in
    (starred_plans, lengths.0, lengths.1, run.0 ∙ all_ones_run, ap (λ st. b_of (plan_of P_all_ones) st 1) run.1 ∙ all_ones_b.0, all_ones_b.1)

-- plan P's run, call by call
pub run_of_P : replies (plan_of P) fresh
    (open_call 0 ∷ look_call 0 4 ∷ fire_call 0 ∷ open_call 0 ∷ fire_call 0 ∷ open_call 1 ∷ look_call 1 2 ∷ look_call 1 2 ∷ fire_call 1 ∷ [])
    ≡ reply.Opened 1 ∷ reply.Found 0 ∷ reply.Fired 0 ∷ reply.Opened 0 ∷ reply.Fired 1 ∷ reply.Opened 1 ∷ reply.Found 0 ∷ reply.Refused 23 ∷ reply.Fired 2 ∷ []
run_of_P =
    (run_from P 1 4 4 P_accepted
    (open_call 0 ∷ look_call 0 4 ∷ fire_call 0 ∷ open_call 0 ∷ fire_call 0 ∷ open_call 1 ∷ look_call 1 2 ∷ look_call 1 2 ∷ fire_call 1 ∷ [])).0 ∙ P_run
