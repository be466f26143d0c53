-- The calls by which one process, called alone, fires its next node, and their answers; what is reached by calls. Definitions only.
-- Assumes nothing.
use Rattle.std.specs.Prelude.{◌≡◌, List, [], ◌∷◌, ◌++◌, ℕ, ◌≤◌, ◌<◌, eqb, length}
use Rattle.loops.specs.Choice.{at, if}
use Rattle.net.specs.Graph.{firings}
use Rattle.plan.specs.declared.Plan.{Plan}
use Rattle.state.specs.declared.State.{State}
use Rattle.machine.specs.Answers.{Reply}
use Rattle.machine.specs.Answers.{Opened, Found, Wait, Fired, Refused}
use Rattle.machine.specs.States.{mark}
use Rattle.machine.specs.Runs.{Call, replies, last_state, run_firings}
use Rattle.follow.specs.Bounds.{AllInBounds}

-- open p
abbrev pub to_open : ℕ → Call
to_open p = record { code = 0; process = p; edge = 0 }

-- look p, e
abbrev pub to_look : ℕ → ℕ → Call
to_look p e = record { code = 1; process = p; edge = e }

-- fire p
abbrev pub to_fire : ℕ → Call
to_fire p = record { code = 2; process = p; edge = 0 }

-- one open where the process is closed
unfoldable pub opening : State → ℕ → List Call
opening st p = if (eqb (at st.opened p) 0) (to_open p ∷ []) []

-- one look at each edge of a list
unfoldable pub looks : ℕ → List ℕ → List Call
looks p [] = []
looks p (e ∷ es) = to_look p e ∷ looks p es

-- one open, one look at each edge, one fire
unfoldable pub drive : State → ℕ → List ℕ → List Call
drive st p es = opening st p ++ (looks p es ++ (to_fire p ∷ []))

-- each number below n stands in the list as often as it is marked, and no other stands in it (`firings` counts)
pub record Listed (mark : ℕ → ℕ) (n : ℕ) (es : List ℕ) : Type 0 where
  pub each : (e : ℕ) → e < n → firings e es ≡ mark e
  pub past : (e : ℕ) → n ≤ e → firings e es ≡ 0

-- the list holds each edge that process p has yet to see once it is open, in any order, each once and no other
abbrev pub YetToSee : Plan → State → ℕ → List ℕ → Type 0
YetToSee pl st p es = Listed (mark (last_state pl st (opening st p)) p) 512 es

-- the answer to the open: how many edges there are to see
unfoldable pub opening_answers : State → ℕ → List ℕ → List Reply
opening_answers st p es = if (eqb (at st.opened p) 0) (Opened (length es) ∷ []) []

-- the answers to the looks: found, with one edge fewer left each time
unfoldable pub look_answers : List ℕ → List Reply
look_answers [] = []
look_answers (e ∷ es) = Found (length es) ∷ look_answers es

-- all of them, with fired v for the last
unfoldable pub drive_answers : State → ℕ → List ℕ → ℕ → List Reply
drive_answers st p es v = opening_answers st p es ++ (look_answers es ++ (Fired v ∷ []))

-- every call is of process p
unfoldable pub AllOf : ℕ → List Call → Type 0
AllOf p [] = Unit {0}
AllOf p (c ∷ cs) = (c.process ≡ p) × AllOf p cs

-- an answer of a call that is not refused, and that does not wait
unfoldable pub Goes : Reply → Type 0
Goes (Opened n) = Unit {0}
Goes (Found n) = Unit {0}
Goes (Wait n) = ⊥
Goes (Fired v) = Unit {0}
Goes (Refused k) = ⊥

-- all answers are such
unfoldable pub AllGo : List Reply → Type 0
AllGo [] = Unit {0}
AllGo (r ∷ rs) = Goes r × AllGo rs

-- process p, called alone, fires v: the calls are all of p and name edges of the plan, their answers are those of a drive, and v alone has fired
pub record Driven (pl : Plan) (st : State) (p v : ℕ) (es : List ℕ) : Type 0 where
  pub alone : AllOf p (drive st p es)
  pub bounds : AllInBounds pl (drive st p es)
  pub answers : replies pl st (drive st p es) ≡ drive_answers st p es v
  pub goes : AllGo (replies pl st (drive st p es))
  pub fires : run_firings pl st (drive st p es) ≡ v ∷ []

-- calls that fire t from a state, each of a process and an edge of the plan, none refused and none waiting
pub record Reached (pl : Plan) (st : State) (t : List ℕ) : Type 0 where
  pub calls : List Call
  pub bounds : AllInBounds pl calls
  pub fires : run_firings pl st calls ≡ t
  pub goes : AllGo (replies pl st calls)
