-- What `calls::step` answers call after call, in the code's own results. Definitions only.
-- Assumes nothing.
use Rattle.std.specs.Prelude.{◌≡◌, List, [], ◌∷◌}
use Rattle.plan.specs.declared.Plan.{Plan}
use Rattle.state.specs.declared.State.{State}
use Rattle.machine.specs.Answers.{Reply, replied}
use Rattle.machine.specs.Calls.{step_call}
use Rattle.machine.specs.Runs.{Call}
use Rattle.calls.specs.declared.Turned as turned
use Rattle.calls.specs.Answers.{turned_of}

-- from a state, calls with what `calls::step` answered each, to a state: each answer meets its promise
pub data Steps (pl : Plan) : State → List Call → List turned.Turned → State → Type 0 where
  none : {st : State} → Steps pl st [] [] st
  more : {st end : State} {c : Call} {cs : List Call} {ts : List turned.Turned} (t : turned.Turned)
      → turned_of t ≡ step_call pl st c.code c.process c.edge → Steps pl t.state cs ts end → Steps pl st (c ∷ cs) (t ∷ ts) end

-- the replies, in 01's words
unfoldable pub replies : List turned.Turned → List Reply
replies [] = []
replies (t ∷ ts) = replied t.reply ∷ replies ts
