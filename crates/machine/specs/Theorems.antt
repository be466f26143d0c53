-- What is proved of the calls, for every plan value and every state (demand 1; 01, "Running a plan"). Each cites its proof.
-- Assumes nothing.
use Rattle.std.specs.Prelude.{◌≡◌, ℕ, ◌⊎◌, refl}
use Rattle.std.proofs.Math.Logic.{inl, inr}
use Rattle.loops.specs.Choice.{if_true, if_false, not_true}
use Rattle.plan.specs.declared.Plan.{Plan}
use Rattle.plan.specs.Faults.{InShape}
use Rattle.plan.specs.Tests.{plan_fits}
use Rattle.plan.specs.Formed.{fits_exactly}
use Rattle.plan.specs.Agree.{Agree}
use Rattle.state.specs.declared.State.{State}
use Rattle.machine.specs.Answers.{Turned}
use Rattle.machine.specs.States.{fresh, Sized, StateInShape}
use Rattle.machine.specs.Calls.{raised, do_open, do_look, do_fire, refused, begin_run, reading_call, opened_state, found_state, with_marks, fired_state, edge_found}
use Rattle.machine.specs.Runs.{Call, turn, IsRefused}
use Rattle.machine.specs.Replies.{opened_not_refused, found_not_refused, wait_not_refused, fired_not_refused}
use Rattle.machine.specs.ByTest.{if_either}
use Rattle.machine.specs.CallCases.{by_step}
use Rattle.machine.specs.ShapeKept as kept
use Rattle.machine.specs.Agreeing as agreeing
use Rattle.machine.specs.KeptByCalls.{fresh_kept}
use Rattle.machine.specs.Accepted as accepted
use Rattle.machine.specs.Accepted.{Unchanged, Changed}

module _ (pl : Plan) (st : State) where
  -- a refused call keeps the state; another raises the turn number
  RefusedOrRaised : Turned → Type 0
  RefusedOrRaised t = (IsRefused t.reply × (t.state ≡ st)) ⊎ ((IsRefused t.reply → ⊥) × (t.state.turn ≡ raised st.turn))

  keeps : (number : ℕ) → RefusedOrRaised (refused number st)
  unfolding RefusedOrRaised refused
  keeps number = inl ((number, refl), refl)

  opens : (p : ℕ) → RefusedOrRaised (do_open pl st p)
  unfolding RefusedOrRaised do_open opened_state
  opens p = inr (λ r. opened_not_refused r.1, refl)

  looks : (p e : ℕ) → RefusedOrRaised (do_look pl st p e)
  unfolding RefusedOrRaised do_look found_state with_marks
  looks p e =
      if_either RefusedOrRaised (edge_found pl st e) _ _ (λ t. inr (λ r. found_not_refused r.1, refl)) (λ t. inr (λ r. wait_not_refused r.1, refl))

  fires : (p : ℕ) → RefusedOrRaised (do_fire pl st p)
  unfolding RefusedOrRaised do_fire fired_state
  fires p = inr (λ r. fired_not_refused r.1, refl)

  refused_or_raised : (c : Call) → RefusedOrRaised (turn pl st c)
  unfolding turn
  refused_or_raised c =
      by_step pl st RefusedOrRaised (λ number d. keeps number) (λ p h o. opens p) (λ p e h o l m. looks p e) (λ p h o z. fires p) c.code c.process c.edge
      (λ out. keeps 25)

  -- "A refused call leaves the run's state unchanged, turn number included."
  pub refused_unchanged : (c : Call) → IsRefused (turn pl st c).reply → (turn pl st c).state ≡ st
  unfolding RefusedOrRaised
  refused_unchanged c r = elim (refused_or_raised c) [ inl k ↦ k.1 | inr k ↦ absurd (k.0 r) ]

  -- "Each call that is not refused raises the turn number by one"
  pub turn_raised : (c : Call) → (IsRefused (turn pl st c).reply → ⊥) → (turn pl st c).state.turn ≡ raised st.turn
  unfolding RefusedOrRaised
  turn_raised c f = elim (refused_or_raised c) [ inl k ↦ absurd (f k.0) | inr k ↦ k.1 ]

-- "Beginning a run is refused with 25 where the plan is out of shape, with an all-zero state beside it": the fresh state is all zero
pub begins : (pl : Plan) → InShape pl → begin_run pl ≡ record { number = 0; state = fresh }
unfolding begin_run
begins pl s = if_true (plan_fits pl) _ _ ((fits_exactly pl).1 s)

pub begin_refused : (pl : Plan) → (InShape pl → ⊥) → begin_run pl ≡ record { number = 25; state = fresh }
unfolding begin_run
begin_refused pl n = if_false (plan_fits pl) _ _ (not_true _ (λ t. n ((fits_exactly pl).0 t)))

-- a fresh state is in shape
pub fresh_in_shape : (pl : Plan) → InShape pl → StateInShape pl fresh × Sized fresh
fresh_in_shape pl shape = (kept.kept_exactly pl shape fresh).0 (fresh_kept pl shape)

-- every call on a plan and a state in shape changes nothing, or what 01 says and nothing else, in every field and at every index
pub call_changes : (pl : Plan) → InShape pl → (st : State) → StateInShape pl st → Sized st → (c : Call) → Unchanged st (turn pl st c) ⊎ Changed pl st c (turn pl st c)
call_changes = accepted.changes

-- calls on states in shape give states in shape
pub shape_kept : (pl : Plan) (shape : InShape pl) (st : State) → StateInShape pl st → Sized st → (c : Call)
    → StateInShape pl (turn pl st c).state × Sized (turn pl st c).state
unfolding turn
shape_kept pl shape st s z c = kept.shape_kept_by_step pl shape st s z c.code c.process c.edge

-- "its table entries past the counts are neither tested nor used": plan values that agree within their counts begin alike, and get the same
-- answer and the same state from every call, and the same reading
pub begin_agrees : (a b : Plan) → Agree a b → begin_run a ≡ begin_run b
begin_agrees = agreeing.begin_agrees

pub call_agrees : (a b : Plan) → Agree a b → (st : State) (c : Call) → turn a st c ≡ turn b st c
unfolding turn
call_agrees a b s st c = agreeing.step_agrees a b s st c.code c.process c.edge

pub reading_agrees : (a b : Plan) → Agree a b → (st : State) (e : ℕ) → reading_call a st e ≡ reading_call b st e
reading_agrees = agreeing.reading_agrees
