-- A call on a state in shape leaves a state in shape, with lists of the same lengths; so does every list of calls from a fresh state.
-- Assumes nothing.
use Rattle.std.specs.Prelude.{◌≡◌, ℕ, ◌<◌, true, ◌≢◌, ◌↔◌, List, [], ◌∷◌}
use Rattle.std.proofs.Common.{sym, ◌∙◌}
use Rattle.loops.specs.Choice.{at, true_false}
use Rattle.plan.specs.declared.Plan.{Plan}
use Rattle.plan.specs.Faults.{InShape}
use Rattle.plan.specs.Formed.{formed}
use Rattle.state.specs.declared.State.{State}
use Rattle.machine.specs.Answers.{Refused}
use Rattle.machine.specs.Answers.{Turned}
use Rattle.machine.specs.States.{fresh, Sized, StateInShape}
use Rattle.machine.specs.Calls.{edge_found, marks_left, do_open, do_look, do_fire, refused, both_fit, step_in_shape, step_call}
use Rattle.machine.specs.Runs.{Call, turn, last_state}
use Rattle.machine.specs.ByTest.{if_either}
use Rattle.machine.specs.Replies.{same_refused, opened_not_refused, found_not_refused, wait_not_refused, fired_not_refused}
use Rattle.machine.specs.CallCases.{by_step_in_shape, by_step}
use Rattle.machine.specs.ShapeParts.{parts_exactly}
use Rattle.machine.specs.ShapeTest.{both_fit_exactly}
use Rattle.machine.specs.KeptByCalls.{Kept, fresh_kept, open_kept, wait_kept, found_kept, fire_kept}

-- the state that is left is one
abbrev Leaves : Plan → Turned → Type 0
Leaves pl t = Kept pl t.state

-- it is not refused with that number
abbrev Answers_not : ℕ → Turned → Type 0
Answers_not number t = t.reply ≡ Refused number → ⊥

module _ (pl : Plan) (shape : InShape pl) where
  module _ (st : State) (kept : Kept pl st) where
    -- a look
    pub look_kept : (p e : ℕ) → p < pl.processes → e < pl.edges → Kept pl (do_look pl st p e).state
    unfolding do_look
    look_kept p e h k = if_either (Leaves pl) (edge_found pl st e) _ _ (λ y. found_kept pl shape st kept p e h k) (λ y. wait_kept pl shape st kept)

    refused_kept : (number : ℕ) → Leaves pl (refused number st)
    unfolding refused
    refused_kept number = kept

    opens_kept : (p : ℕ) → p < pl.processes → at st.opened p ≡ 0 → Leaves pl (do_open pl st p)
    unfolding do_open
    opens_kept p h z = open_kept pl shape st kept p h

    fires_kept : (p : ℕ) → p < pl.processes → at st.opened p ≢ 0 → marks_left st p ≡ 0 → Leaves pl (do_fire pl st p)
    unfolding do_fire
    fires_kept p h o z = fire_kept pl shape st kept p h z

    -- any call of whose plan and state the shape is known
    pub step_in_shape_kept : (code p e : ℕ) → Kept pl (step_in_shape pl st code p e).state
    step_in_shape_kept = by_step_in_shape pl st (Leaves pl) (λ number d. refused_kept number) opens_kept (λ p e h o k m. look_kept p e h k) fires_kept

    -- any call
    pub step_kept : (code p e : ℕ) → Kept pl (step_call pl st code p e).state
    step_kept code p e =
        by_step pl st (Leaves pl) (λ number d. refused_kept number) opens_kept (λ p e h o k m. look_kept p e h k) fires_kept code p e (λ y. refused_kept 25)

  -- every list of calls from a state in shape leaves one in shape
  pub run_kept : (cs : List Call) (st : State) → Kept pl st → Kept pl (last_state pl st cs)
  unfolding last_state turn
  run_kept [] st kept = kept
  run_kept (c ∷ cs) st kept = run_kept cs (turn pl st c).state (step_kept st kept c.code c.process c.edge)

  -- what is kept is the shape and the lengths
  pub kept_exactly : (st : State) → Kept pl st ↔ (StateInShape pl st × Sized st)
  kept_exactly st =
      let parts = parts_exactly pl (formed pl shape).tables.counts st in (
        λ k. (parts.0 k.parts, k.sized),
        λ s. record { parts = parts.1 s.0; sized = s.1 },
      )

  -- a call on a state in shape with lists of the right lengths leaves such a state
  pub shape_kept_by_step : (st : State) → StateInShape pl st → Sized st → (code p e : ℕ)
      → StateInShape pl (step_call pl st code p e).state × Sized (step_call pl st code p e).state
  shape_kept_by_step st s sized code p e = (kept_exactly _).0 (step_kept st ((kept_exactly st).1 (s, sized)) code p e)

  -- the same of a call of whose plan and state the shape is known
  pub shape_kept_in_shape : (st : State) → StateInShape pl st → Sized st → (code p e : ℕ)
      → StateInShape pl (step_in_shape pl st code p e).state × Sized (step_in_shape pl st code p e).state
  shape_kept_in_shape st s sized code p e = (kept_exactly _).0 (step_in_shape_kept st ((kept_exactly st).1 (s, sized)) code p e)

  -- such a state and its plan pass the test of both
  pub kept_fits : (st : State) → Kept pl st → both_fit pl st ≡ true
  kept_fits st kept = (both_fit_exactly pl st).1 (shape, ((kept_exactly st).0 kept).0)

  -- every state that a run from a fresh state reaches is in shape
  pub reached_kept : (cs : List Call) → Kept pl (last_state pl fresh cs)
  reached_kept cs = run_kept cs fresh (fresh_kept pl shape)

  -- so no call on such a state is answered with 25
  pub never_25 : (st : State) → Kept pl st → (c : Call) → (turn pl st c).reply ≢ Refused 25
  unfolding turn refused do_open do_look do_fire
  never_25 st kept c =
      by_step pl st (Answers_not 25) (λ number d q. d (same_refused q)) (λ p h z q. opened_not_refused q)
      (λ p e h o k m. if_either (Answers_not 25) (edge_found pl st e) _ _ (λ t q. found_not_refused q) (λ t q. wait_not_refused q))
      (λ p h o z q. fired_not_refused q) c.code c.process c.edge (λ y. absurd (true_false (sym (kept_fits st kept) ∙ y)))
