-- The numbers that the host gets back (01: "it calls the plan check with the image's bytes and gets numbers back"), for each case of each answer.
-- Definitions only. Assumes nothing.
use Rattle.std.specs.Prelude.{◌≡◌, ℕ, ◌+◌, ◌*◌}
use Rattle.plan.specs.declared.Plan.{Plan}
use Rattle.judge.specs.Answer.{Answer}
use Rattle.judge.specs.Answer.{Accepted, Refused}
use Rattle.reader.specs.Answer.{ReadPlan}
use Rattle.state.specs.declared.State.{State}
use Rattle.machine.specs.Answers.{Began}
use Rattle.machine.specs.Answers.{Reply}
use Rattle.machine.specs.Answers as reply
use Rattle.machine.specs.Answers.{Level}
use Rattle.machine.specs.Answers.{Tokens, Unread}
use Rattle.machine.specs.Calls.{step_call}
use Rattle.tamsklor.specs.declared.Outcome.{Outcome}
use Rattle.tamsklor.specs.declared.Verdict.{Verdict}
use Rattle.tamsklor.specs.declared.PlanRead.{PlanRead}
use Rattle.tamsklor.specs.declared.Begun.{Begun}
use Rattle.tamsklor.specs.declared.CallAnswer.{CallAnswer}
use Rattle.tamsklor.specs.declared.TokenAnswer.{TokenAnswer}

-- refusal number (0: accepted) and place
unfoldable pub outcome : Answer → Outcome
outcome (Accepted q modulus least) = record { number = 0; place = 0 }
outcome (Refused number place) = record { number = number; place = place }

-- refusal number (0: accepted), place, and least modulus (0 after a refusal)
unfoldable pub numbers_of : Answer → Verdict
numbers_of (Accepted q modulus least) = record { number = 0; place = 0; least = least }
numbers_of (Refused number place) = record { number = number; place = place; least = 0 }

-- the same with the plan beside it: "the plan's tables stand beside it"
unfoldable pub beside_plan : Verdict → Plan → PlanRead
beside_plan v pl = record { number = v.number; place = v.place; least = v.least; plan = pl }

unfoldable pub numbers_of_read : ReadPlan → PlanRead
numbers_of_read r = beside_plan (numbers_of r.answer) r.plan

-- "Beginning a run is refused with 25 where the plan is out of shape, with an all-zero state beside it": 0 where it is not
unfoldable pub numbers_of_begin : Began → Begun
numbers_of_begin b = record { number = b.number; state = b.state }

-- 0 and the number of a refusal; 1, opened, and how many edges are marked; 2, found, or 3, wait, and how many are left; 4, fired, and the node
unfoldable pub numbers_of_reply : Reply → CallAnswer
numbers_of_reply (reply.Opened edges) = record { kind = 1; value = edges }
numbers_of_reply (reply.Found left) = record { kind = 2; value = left }
numbers_of_reply (reply.Wait left) = record { kind = 3; value = left }
numbers_of_reply (reply.Fired node) = record { kind = 4; value = node }
numbers_of_reply (reply.Refused number) = record { kind = 0; value = number }

-- refusal number (0: read) and the reading (0 after a refusal)
unfoldable pub numbers_of_level : Level → TokenAnswer
numbers_of_level (Tokens count) = record { number = 0; count = count }
numbers_of_level (Unread number) = record { number = number; count = 0 }

-- the version, major, minor and patch number in one
abbrev pub version : ℕ
version = 0 * 10000 + 2 * 100 + 0

-- what the promises of `tamsklor_run_step` and `tamsklor_run_stepped` say of an answer and of the state afterwards
abbrev pub StepPromise : Plan → State → ℕ → ℕ → ℕ → CallAnswer → State → Type 0
StepPromise pl st code p e r after = (r ≡ numbers_of_reply (step_call pl st code p e).reply) × (after ≡ (step_call pl st code p e).state)
