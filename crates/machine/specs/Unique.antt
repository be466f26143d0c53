-- Each public promise of the machine leaves room for one answer and one state.
-- Assumes nothing.
use Rattle.std.specs.Prelude.{◌≡◌, ℕ, Bool}
use Rattle.plan.specs.declared.Plan.{Plan}
use Rattle.plan.specs.Unique.{one_answer}
use Rattle.state.specs.declared.State.{State}
use Rattle.machine.specs.Answers.{Turned}
use Rattle.machine.specs.Answers.{Began}
use Rattle.machine.specs.Answers.{Level}
use Rattle.machine.specs.Calls.{both_fit, begin_run, open_call, look_call, fire_call, step_call, reading_call}

pub begin_unique : (pl : Plan) {r r' : Began} → r ≡ begin_run pl → r' ≡ begin_run pl → r ≡ r'
begin_unique pl = one_answer

module _ (pl : Plan) (st : State) where
  pub both_fit_unique : {r r' : Bool} → r ≡ both_fit pl st → r' ≡ both_fit pl st → r ≡ r'
  both_fit_unique = one_answer

  pub open_unique : (p : ℕ) {r r' : Turned} → r ≡ open_call pl st p → r' ≡ open_call pl st p → r ≡ r'
  open_unique p = one_answer

  pub look_unique : (p e : ℕ) {r r' : Turned} → r ≡ look_call pl st p e → r' ≡ look_call pl st p e → r ≡ r'
  look_unique p e = one_answer

  pub fire_unique : (p : ℕ) {r r' : Turned} → r ≡ fire_call pl st p → r' ≡ fire_call pl st p → r ≡ r'
  fire_unique p = one_answer

  pub step_unique : (code p e : ℕ) {r r' : Turned} → r ≡ step_call pl st code p e → r' ≡ step_call pl st code p e → r ≡ r'
  step_unique code p e = one_answer

  pub reading_unique : (e : ℕ) {r r' : Level} → r ≡ reading_call pl st e → r' ≡ reading_call pl st e → r ≡ r'
  reading_unique e = one_answer
