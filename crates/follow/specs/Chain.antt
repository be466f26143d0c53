-- A chain of calls, each with a result that is equal to the definition's: it is the run, so what holds of runs holds of it.
-- Assumes nothing.
use Rattle.std.specs.Prelude.{◌≡◌, refl, List, [], ◌∷◌, ℕ}
use Rattle.std.proofs.Common.{sym, ap, ◌∙◌}
use Rattle.loops.specs.Choice.{if}
use Rattle.plan.specs.declared.Plan.{Plan}
use Rattle.state.specs.declared.State.{State}
use Rattle.machine.specs.Answers.{Reply}
use Rattle.machine.specs.Calls.{open_call, look_call, fire_call, step_in_shape, step_call}
use Rattle.machine.specs.Runs.{Call, turn, replies, last_state, Chain}

-- an open is a step with code 0; its edge is not used
pub open_is_step : (pl : Plan) (st : State) (p e : ℕ) → open_call pl st p ≡ step_call pl st 0 p e
unfolding open_call step_call step_in_shape if
open_is_step pl st p e = refl

-- a look is one with code 1
pub look_is_step : (pl : Plan) (st : State) (p e : ℕ) → look_call pl st p e ≡ step_call pl st 1 p e
unfolding look_call step_call step_in_shape if
look_is_step pl st p e = refl

-- a fire is one with code 2; its edge is not used
pub fire_is_step : (pl : Plan) (st : State) (p e : ℕ) → fire_call pl st p ≡ step_call pl st 2 p e
unfolding fire_call step_call step_in_shape if
fire_is_step pl st p e = refl

-- the answers and the last state of a chain are the run's
pub chain_is_run : {pl : Plan} {st end : State} {cs : List Call} {rs : List Reply} → Chain pl st cs rs end
    → (rs ≡ replies pl st cs) × (end ≡ last_state pl st cs)
unfolding replies last_state turn
chain_is_run Chain.done = (refl, refl)
chain_is_run {pl} (Chain.then {st = st} {end = end} {c = c} {cs = cs} {rs = rs} t e k) =
    let r = chain_is_run k in (
      ap (t.reply ∷◌) r.0 ∙ ap (λ t. t.reply ∷ replies pl t.state cs) e,
      r.1 ∙ ap (λ t. last_state pl t.state cs) e,
    )

-- two chains of the same calls from one state have the same answers and the same last state
pub chain_unique : {pl : Plan} {st end end' : State} {cs : List Call} {rs rs' : List Reply} → Chain pl st cs rs end → Chain pl st cs rs' end'
    → (rs ≡ rs') × (end ≡ end')
chain_unique a b =
    let x = chain_is_run a in
    let y = chain_is_run b in
    (x.0 ∙ sym y.0, x.1 ∙ sym y.1)

-- and there is one
pub chain_of_run : (pl : Plan) (cs : List Call) (st : State) → Chain pl st cs (replies pl st cs) (last_state pl st cs)
unfolding replies last_state turn
chain_of_run pl [] st = Chain.done
chain_of_run pl (c ∷ cs) st = Chain.then (turn pl st c) refl (chain_of_run pl cs (turn pl st c).state)
