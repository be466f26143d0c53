-- Chains of the calls that C makes, and what their numbers say. Definitions only.
-- Assumes nothing.
use Rattle.std.specs.Prelude.{◌≡◌, List, [], ◌∷◌, ◌++◌, ◌↔◌, ◌≢◌, ℕ, ◌<◌, eqb}
use Rattle.loops.specs.Choice.{at, if}
use Rattle.plan.specs.declared.Plan.{Plan}
use Rattle.plan.specs.Value.{Synchronising}
use Rattle.judge.specs.Answer.{Answer}
use Rattle.judge.specs.Answer as answer
use Rattle.reader.specs.Answer.{ReadPlan}
use Rattle.reader.specs.Tests.{verdict}
use Rattle.state.specs.declared.State.{State}
use Rattle.machine.specs.Answers.{Reply}
use Rattle.machine.specs.Answers.{Opened, Found, Wait, Fired, Refused}
use Rattle.machine.specs.Answers.{Level}
use Rattle.machine.specs.Answers.{Tokens, Unread}
use Rattle.machine.specs.States.{mark, next_node}
use Rattle.machine.specs.Calls.{marks_left}
use Rattle.machine.specs.Runs.{Call}
use Rattle.follow.specs.Bounds.{AllInBounds}
use Rattle.follow.specs.DriveCalls.{drive, AllOf}
use Rattle.tamsklor.specs.declared.PlanRead.{PlanRead}
use Rattle.tamsklor.specs.declared.CallAnswer.{CallAnswer}
use Rattle.tamsklor.specs.declared.Stepped.{Stepped}
use Rattle.tamsklor.specs.declared.TokenAnswer.{TokenAnswer}
use Rattle.tamsklor.specs.Numbers.{StepPromise}

-- ---- chains of calls
-- from a state, calls with the numbers answered, to a state: each link is what `tamsklor_run_step` promises of its answer and of the state that
-- stands there afterwards (01: "keeps one state for the whole run and has it updated where it stands, by one thin call")
pub data StepChain (pl : Plan) : State → List Call → List CallAnswer → State → Type 0 where
  done : {st : State} → StepChain pl st [] [] st
  then : {st after end : State} {c : Call} {cs : List Call} {n : CallAnswer} {ns : List CallAnswer}
      → StepPromise pl st c.code c.process c.edge n after → StepChain pl after cs ns end → StepChain pl st (c ∷ cs) (n ∷ ns) end

-- the same of the results of `tamsklor_run_stepped`, each with the state that the next call is made on
pub data SteppedChain (pl : Plan) : State → List Call → List Stepped → State → Type 0 where
  done : {st : State} → SteppedChain pl st [] [] st
  then : {st end : State} {c : Call} {cs : List Call} {r : Stepped} {rs : List Stepped}
      → StepPromise pl st c.code c.process c.edge r.answer r.state → SteppedChain pl r.state cs rs end
      → SteppedChain pl st (c ∷ cs) (r ∷ rs) end

-- ---- what the numbers tell
-- a call's answer, told by its kind: 1 opened, 2 found, 3 wait, 4 fired, and 0 refused
unfoldable pub told_reply : CallAnswer → Reply
told_reply n =
    if (eqb n.kind 1) (Opened n.value)
    (if (eqb n.kind 2) (Found n.value)
    (if (eqb n.kind 3) (Wait n.value)
    (if (eqb n.kind 4) (Fired n.value)
    (Refused n.value))))

-- a token reading, told by its number: 0 where it was read
unfoldable pub told_level : TokenAnswer → Level
told_level n = if (eqb n.number 0) (Tokens n.count) (Unread n.number)

-- the reader's answer, told by its number: 0 where the plan was accepted, with Q and N in the plan beside it
unfoldable pub told_answer : PlanRead → Answer
told_answer r = if (eqb r.number 0) (answer.Accepted r.plan.q r.plan.modulus r.least) (answer.Refused r.number r.place)

-- and with the plan beside it
unfoldable pub told_read : PlanRead → ReadPlan
told_read r = record { answer = told_answer r; plan = r.plan }

-- both images are refused with one number and place
unfoldable pub RefusedAlike : List ℕ → List ℕ → Type 0
RefusedAlike s t = (k p : ℕ) × (verdict s ≡ answer.Refused k p) × (verdict t ≡ answer.Refused k p)

-- both are accepted with one least modulus
unfoldable pub AcceptedAlike : List ℕ → List ℕ → Type 0
AcceptedAlike s t =
    (least : ℕ)
    × ((q modulus : ℕ) × (verdict s ≡ answer.Accepted q modulus least))
    × ((q modulus : ℕ) × (verdict t ≡ answer.Accepted q modulus least))

-- ---- firings
-- the node that an answer's numbers say has fired: kind 4, and the node
unfoldable pub node_of : CallAnswer → List ℕ
node_of n = if (eqb n.kind 4) (n.value ∷ []) []

-- the nodes that have fired, in order, as C sees them
unfoldable pub nodes_fired : List CallAnswer → List ℕ
nodes_fired [] = []
nodes_fired (n ∷ ns) = node_of n ++ nodes_fired ns

-- the call is neither refused (0) nor has to wait (3)
unfoldable pub GoesOn : CallAnswer → Type 0
GoesOn n = (n.kind ≢ 0) × (n.kind ≢ 3)

-- so each of them
unfoldable pub AllGoOn : List CallAnswer → Type 0
AllGoOn [] = Unit {0}
AllGoOn (n ∷ ns) = GoesOn n × AllGoOn ns

-- ---- what a call answers, in numbers
-- "Open p: marks the synchronising in-edges of p's next node; answers how many."
pub record OpenInNumbers (pl : Plan) (st : State) (p : ℕ) (n : CallAnswer) (after : State) : Type 0 where
  pub kind_is : n.kind ≡ 1
  pub left : n.value ≡ marks_left after p
  pub is_open : at after.opened p ≡ 1
  pub marks : (e : ℕ) → e < 512 → (mark after p e ≡ 1) ↔ ((at pl.destination e ≡ next_node pl st p) × Synchronising pl e)

-- "a look at an edge still to be seen finds it exactly when Lamport's marked graph … has a token there"; "and how many are left"
pub record LookInNumbers (tokens p : ℕ) (n : CallAnswer) (after : State) : Type 0 where
  pub found : (n.kind ≡ 2) ↔ (0 < tokens)
  pub waits : (n.kind ≡ 3) ↔ (tokens ≡ 0)
  pub left : n.value ≡ marks_left after p

-- "some process, called alone, fires after at most one open, one look at each edge it has yet to see, and one fire": whatever numbers C is handed
pub record DrivenInNumbers (pl : Plan) (st : State) (p v : ℕ) (es : List ℕ) : Type 0 where
  pub alone : AllOf p (drive st p es)
  pub bounds : AllInBounds pl (drive st p es)
  pub goes : {ns : List CallAnswer} {end : State} → StepChain pl st (drive st p es) ns end → AllGoOn ns
  pub fires : {ns : List CallAnswer} {end : State} → StepChain pl st (drive st p es) ns end → nodes_fired ns ≡ v ∷ []
