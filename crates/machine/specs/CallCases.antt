-- Every call by cases: what holds of a refusal, and of each call that is not refused, holds of every call's result.
-- Assumes nothing.
use Rattle.std.specs.Prelude.{◌≡◌, ℕ, ◌<◌, true, false, ◌≢◌, ◌==◌, nat_lt}
use Rattle.std.proofs.Common.{arith, eqb-true, eq-eqb}
use Rattle.loops.specs.Choice.{at, if, if_true}
use Rattle.plan.specs.declared.Plan.{Plan}
use Rattle.refusals.specs.Known.{open_known, open_25, look_known, look_25, fire_known, fire_25}
use Rattle.state.specs.declared.State.{State}
use Rattle.machine.specs.Answers.{Turned}
use Rattle.machine.specs.States.{mark}
use Rattle.machine.specs.Calls.{marks_left, do_open, do_look, do_fire, refused, unless_refused, open_in_shape, look_in_shape, fire_in_shape, both_fit, step_in_shape, step_call}
use Rattle.machine.specs.Runs.{Call, turn}
use Rattle.machine.specs.ByTest.{if_either}

-- a call that is not turned down
pub accepts : (number : ℕ) (st : State) (t : Turned) → number ≡ 0 → unless_refused number st t ≡ t
unfolding unless_refused
accepts number st t z = if_true (number == 0) _ _ (eq-eqb number 0 z)

module _ (pl : Plan) (st : State) (P : Turned → Type 0) (refuses_it : (number : ℕ) → number ≢ 25 → P (refused number st)) where
  -- by the number that it is turned down with
  by_number : (number : ℕ) (t : Turned) → number ≢ 25 → (number ≡ 0 → P t) → P (unless_refused number st t)
  unfolding unless_refused
  by_number number t d accepted = if_either P (number == 0) _ _ (λ y. accepted (eqb-true number 0 y)) (λ y. refuses_it number d)

  -- an open call
  pub open_cases : (p : ℕ) → (p < pl.processes → at st.opened p ≡ 0 → P (do_open pl st p)) → P (open_in_shape pl st p)
  unfolding open_in_shape
  open_cases p opens =
      by_number _ _ (open_25 pl.processes st.opened p) (λ z. let k = (open_known pl.processes st.opened p).0 z in opens k.0 k.1)

  -- a look
  pub look_cases : (p e : ℕ) → (p < pl.processes → at st.opened p ≢ 0 → e < pl.edges → mark st p e ≡ 1 → P (do_look pl st p e))
      → P (look_in_shape pl st p e)
  unfolding look_in_shape
  look_cases p e looks =
      by_number _ _ (look_25 pl.processes st.opened p st.marks pl.edges e)
      (λ z. let k = (look_known pl.processes st.opened p st.marks pl.edges e).0 z in looks k.0 k.1 k.2 k.3)

  -- a fire call
  pub fire_cases : (p : ℕ) → (p < pl.processes → at st.opened p ≢ 0 → marks_left st p ≡ 0 → P (do_fire pl st p)) → P (fire_in_shape pl st p)
  unfolding fire_in_shape marks_left
  fire_cases p fires =
      by_number _ _ (fire_25 pl.processes st.opened p st.marks)
      (λ z. let k = (fire_known pl.processes st.opened p st.marks).0 z in fires k.0 k.1 k.2)

  module _ (opens : (p : ℕ) → p < pl.processes → at st.opened p ≡ 0 → P (do_open pl st p))
      (looks : (p e : ℕ) → p < pl.processes → at st.opened p ≢ 0 → e < pl.edges → mark st p e ≡ 1 → P (do_look pl st p e))
      (fires : (p : ℕ) → p < pl.processes → at st.opened p ≢ 0 → marks_left st p ≡ 0 → P (do_fire pl st p)) where
    -- a call of whose plan and state the shape is known
    pub by_step_in_shape : (code p e : ℕ) → P (step_in_shape pl st code p e)
    unfolding step_in_shape
    by_step_in_shape code p e =
        if_either P (code == 0) _ _ (λ y. open_cases p (opens p))
        (λ y. if_either P (code == 1) _ _ (λ x. look_cases p e (looks p e))
        (λ x. if_either P (code == 2) _ _ (λ w. fire_cases p (fires p)) (λ w. refuses_it 26 (omega arith))))

    -- any call
    pub by_step : (code p e : ℕ) → (both_fit pl st ≡ false → P (refused 25 st)) → P (step_call pl st code p e)
    unfolding step_call
    by_step code p e out_of_shape =
        if_either P (nat_lt 2 code) _ _ (λ y. refuses_it 26 (omega arith))
        (λ y. if_either P (both_fit pl st) _ _ (λ x. by_step_in_shape code p e) out_of_shape)

-- a call on a plan and a state in shape, by its code
module _ (pl : Plan) (st : State) (fits : both_fit pl st ≡ true) where
  -- code 0
  pub open_turn : (c : Call) → c.code ≡ 0 → turn pl st c ≡ open_in_shape pl st c.process
  unfolding turn step_call step_in_shape if
  open_turn c z = rw (z, fits)

  -- code 1
  pub look_turn : (c : Call) → c.code ≡ 1 → turn pl st c ≡ look_in_shape pl st c.process c.edge
  unfolding turn step_call step_in_shape if
  look_turn c z = rw (z, fits)

  -- code 2
  pub fire_turn : (c : Call) → c.code ≡ 2 → turn pl st c ≡ fire_in_shape pl st c.process
  unfolding turn step_call step_in_shape if
  fire_turn c z = rw (z, fits)

-- a call of a known process that is not refused
module _ (pl : Plan) (st : State) (p : ℕ) (h : p < pl.processes) where
  -- an open of a closed process
  pub open_accepted : at st.opened p ≡ 0 → open_in_shape pl st p ≡ do_open pl st p
  unfolding open_in_shape
  open_accepted z = accepts _ st _ ((open_known pl.processes st.opened p).1 (h, z))

  -- a look at a marked edge
  pub look_accepted : (e : ℕ) → at st.opened p ≢ 0 → e < pl.edges → mark st p e ≡ 1 → look_in_shape pl st p e ≡ do_look pl st p e
  unfolding look_in_shape
  look_accepted e o l m = accepts _ st _ ((look_known pl.processes st.opened p st.marks pl.edges e).1 (h, o, l, m))

  -- a fire with no mark left
  pub fire_accepted : at st.opened p ≢ 0 → marks_left st p ≡ 0 → fire_in_shape pl st p ≡ do_fire pl st p
  unfolding fire_in_shape marks_left
  fire_accepted o z = accepts _ st _ ((fire_known pl.processes st.opened p st.marks).1 (h, o, z))
