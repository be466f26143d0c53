-- The run of a list of calls from a state: its answers, its last state, its firings in order; chains of results. Definitions only.
-- Assumes nothing.
use Rattle.std.specs.Prelude.{◌≡◌, ℕ, List, [], ◌∷◌, ◌++◌}
use Rattle.plan.specs.declared.Plan.{Plan}
use Rattle.state.specs.declared.State.{State}
use Rattle.machine.specs.Answers.{Reply}
use Rattle.machine.specs.Answers.{Opened, Found, Wait, Fired, Refused}
use Rattle.machine.specs.Answers.{Turned}
use Rattle.machine.specs.Calls.{step_call}

-- a call is any three numbers
pub record Call : Type 0 where
  pub code : ℕ
  pub process : ℕ
  pub edge : ℕ

-- the answer to a call and the state that it leaves
unfoldable pub turn : Plan → State → Call → Turned
turn pl st c = step_call pl st c.code c.process c.edge

-- the answers to a list of calls, each made from the state that the one before it left
unfoldable pub replies : Plan → State → List Call → List Reply
replies pl st [] = []
replies pl st (c ∷ cs) = (turn pl st c).reply ∷ replies pl (turn pl st c).state cs

-- the state after them
unfoldable pub last_state : Plan → State → List Call → State
last_state pl st [] = st
last_state pl st (c ∷ cs) = last_state pl (turn pl st c).state cs

-- the node that an answer says has fired, if it says so
unfoldable pub fired_by : Reply → List ℕ
fired_by (Opened n) = []
fired_by (Found n) = []
fired_by (Wait n) = []
fired_by (Fired v) = v ∷ []
fired_by (Refused k) = []

-- the nodes of the `fired` answers, in order
unfoldable pub fired_in : List Reply → List ℕ
fired_in [] = []
fired_in (r ∷ rs) = fired_by r ++ fired_in rs

-- the firings of a list of calls
unfoldable pub run_firings : Plan → State → List Call → List ℕ
run_firings pl st cs = fired_in (replies pl st cs)

-- the answer is a refusal
abbrev pub IsRefused : Reply → Type 0
IsRefused r = (number : ℕ) × (r ≡ Refused number)

-- from a state, calls with their answers, to a state: each result is what the promise of a step says it is
pub data Chain (pl : Plan) : State → List Call → List Reply → State → Type 0 where
  done : {st : State} → Chain pl st [] [] st
  then : {st end : State} {c : Call} {cs : List Call} {rs : List Reply} (t : Turned) → t ≡ step_call pl st c.code c.process c.edge
      → Chain pl t.state cs rs end → Chain pl st (c ∷ cs) (t.reply ∷ rs) end
