-- What the numbers tell the host (01, "Numbers a plan can be turned down with", "Running a plan").
-- Assumes nothing.
use Rattle.std.specs.Prelude.{◌≡◌, refl, List, ◌≢◌, ℕ}
use Rattle.std.proofs.Common.{arith}
use Rattle.plan.specs.declared.Plan.{Plan}
use Rattle.judge.specs.Answer.{Answer}
use Rattle.judge.specs.Answer as answer
use Rattle.reader.specs.Tests.{verdict, plan_beside, no_plan, read_of}
use Rattle.state.specs.declared.State.{State}
use Rattle.machine.specs.Answers.{Reply}
use Rattle.machine.specs.Answers.{Opened, Found, Wait, Fired, Refused}
use Rattle.machine.specs.Calls.{step_call}
use Rattle.machine.specs.Runs.{turn, IsRefused}
use Rattle.machine.specs.Theorems.{refused_unchanged}
use Rattle.tamsklor.specs.Numbers.{numbers_of, beside_plan, numbers_of_read, numbers_of_reply}

-- kind 0 is a refusal
kind_0 : (r : Reply) → (numbers_of_reply r).kind ≡ 0 → IsRefused r
unfolding numbers_of_reply
kind_0 (Opened edges) z = absurd (omega (arith, z))
kind_0 (Found left) z = absurd (omega (arith, z))
kind_0 (Wait left) z = absurd (omega (arith, z))
kind_0 (Fired node) z = absurd (omega (arith, z))
kind_0 (Refused number) z = (number, refl)

-- "A refused call leaves the run's state unchanged": after kind 0 the state that stands there is the one that stood there
pub refused_in_place : (pl : Plan) (st : State) (code p e : ℕ) → (numbers_of_reply (step_call pl st code p e).reply).kind ≡ 0 → (step_call pl st code p e).state ≡ st
unfolding turn
refused_in_place pl st code p e z = refused_unchanged pl st (record { code = code; process = p; edge = e }) (kind_0 (step_call pl st code p e).reply z)

-- the plan beside a number that is not 0
nothing_beside : (a : Answer) (pl : Plan) → (numbers_of a).number ≢ 0 → plan_beside a pl ≡ no_plan
unfolding numbers_of plan_beside
nothing_beside (answer.Accepted q modulus least) pl n = absurd (n refl)
nothing_beside (answer.Refused number place) pl n = refl

-- "all 0 after a refusal": after a number that is not 0 nothing of the plan is handed out
pub nothing_handed_out : (s : List ℕ) → (numbers_of_read (read_of s)).number ≢ 0 → (numbers_of_read (read_of s)).plan ≡ no_plan
unfolding numbers_of_read beside_plan read_of
nothing_handed_out s n = nothing_beside (verdict s) _ n
