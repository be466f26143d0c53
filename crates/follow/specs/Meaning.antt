-- What the theorems about runs of a plan say. Definitions only.
-- Assumes nothing.
use Rattle.std.specs.Prelude.{◌≡◌, List, ◌↔◌, ℕ, ◌+◌, ◌*◌, ◌%◌, ◌<◌}
use Rattle.loops.specs.Values.{at, sum}
use Rattle.net.specs.Graph.{Marking, firings, after, Fireable, Legal}
use Rattle.net.specs.Processes.{before}
use Rattle.plan.specs.declared.Plan.{Plan}
use Rattle.plan.specs.Value.{graph_of, Sits, Synchronising, share}
use Rattle.state.specs.declared.State.{State}
use Rattle.machine.specs.Answers.{Reply}
use Rattle.machine.specs.Answers.{Found, Wait}
use Rattle.machine.specs.Answers.{Turned}
use Rattle.machine.specs.States.{mark, next_node, fresh, StateInShape}
use Rattle.machine.specs.Calls.{marks_left}
use Rattle.machine.specs.Runs.{Call, replies, last_state, run_firings}

-- the tokens of the plan's marked graph after the firings of a list
abbrev pub tokens_after : Plan → List ℕ → Marking
tokens_after pl s = after (graph_of pl) (graph_of pl).tokens s

module _ (pl : Plan) where
  -- the state after a list of calls from a fresh state
  abbrev pub state_after : List Call → State
  state_after cs = last_state pl fresh cs

  -- the nodes that have fired, in order
  abbrev pub fired_after : List Call → List ℕ
  fired_after cs = run_firings pl fresh cs

  -- the answers to them
  abbrev pub answers_after : List Call → List Reply
  answers_after cs = replies pl fresh cs

  -- the tokens that the marked graph then has
  abbrev pub tokens_now : List Call → Marking
  tokens_now cs = tokens_after pl (fired_after cs)

-- a state beside the marked graph: it stands for the firings of a list
pub record Stands (pl : Plan) (st : State) (s : List ℕ) : Type 0 where
  -- marks lie only on synchronising in-edges of an open process's next node, and everything is in range
  pub in_shape : StateInShape pl st
  -- the firings are a legal order
  pub legal : Legal (graph_of pl) (graph_of pl).tokens s
  -- each process has gone round so often and stands at its position: its nodes before the position have fired once more than the others
  pub rounds : ℕ → ℕ
  pub fired : (v p j : ℕ) → Sits pl v p j → firings v s ≡ rounds p + before j (at st.positions p)
  -- each counter is its increments times the firings, modulo N
  pub counted : (c : ℕ) → c < pl.counters
      → at st.counters c ≡ sum (λ v. share pl.counter pl.increment c v * firings v s) pl.nodes % pl.modulus
  -- a synchronising in-edge of its next node that an open process no longer has to see holds a token
  pub seen : (p e : ℕ) → p < pl.processes → Synchronising pl e → at pl.destination e ≡ next_node pl st p → at st.opened p ≡ 1
      → mark st p e ≡ 0 → 0 < tokens_after pl s e

-- a look's result: found exactly where a token stands, wait exactly where none does, and either with the marks that are left
pub record LookExact (tokens p : ℕ) (t : Turned) : Type 0 where
  pub found : ((left : ℕ) × (t.reply ≡ Found left)) ↔ (0 < tokens)
  pub waits : ((left : ℕ) × (t.reply ≡ Wait left)) ↔ (tokens ≡ 0)
  pub found_left : (left : ℕ) → t.reply ≡ Found left → left ≡ marks_left t.state p
  pub wait_left : (left : ℕ) → t.reply ≡ Wait left → left ≡ marks_left t.state p

-- what a fire call that fires v says of its process
pub record FireMeans (pl : Plan) (st : State) (tokens : ℕ → ℕ) (p v : ℕ) : Type 0 where
  pub process_lt : p < pl.processes
  pub is_open : at st.opened p ≡ 1
  pub none_left : marks_left st p ≡ 0
  pub node_is : v ≡ next_node pl st p
  pub fireable : Fireable (graph_of pl) tokens v
