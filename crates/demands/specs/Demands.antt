-- Demands 1, 2 and 3, in the user's words, for every image, every accepted plan and every list of calls from a fresh start, refused ones
-- included. `verdict` and `read_of` are what `read` is promised to answer, `begin_run` what `begin` is, `turn` what `step` is.
-- Statements; each cites its proof. Assumes nothing.
use Rattle.std.specs.Prelude.{◌≡◌, List, ◌⊎◌, ◌↔◌, ℕ, ◌+◌, ◌*◌, ◌%◌, ◌≤◌, ◌<◌}
use Rattle.loops.specs.Values.{at, sum}
use Rattle.net.specs.Graph.{Legal, Fireable, Emptiest, Linked, firings}
use Rattle.net.proofs.Emptiest as net
use Rattle.plan.specs.declared.Plan.{Plan}
use Rattle.plan.specs.Value.{graph_of, InProcess, share}
use Rattle.judge.specs.Answer.{Refused}
use Rattle.judge.specs.Sound.{Upheld}
use Rattle.reader.specs.Answer.{ReadPlan}
use Rattle.image.specs.Image.{plan_of}
use Rattle.plan.specs.Order.{FirstFault}
use Rattle.reader.specs.Faults.{image_order}
use Rattle.reader.specs.Layout.{Layout}
use Rattle.reader.specs.Tests.{IsAccepted, verdict, no_plan, read_of}
use Rattle.reader.specs.Theorems as reader
use Rattle.state.specs.declared.State.{State}
use Rattle.machine.specs.Answers.{Began}
use Rattle.machine.specs.Answers.{Reply}
use Rattle.machine.specs.Answers.{Fired}
use Rattle.machine.specs.States.{fresh, mark, next_node, StateInShape}
use Rattle.machine.specs.Calls.{begin_run, marks_left}
use Rattle.machine.specs.Runs.{Call, turn, IsRefused, Chain}
use Rattle.machine.specs.Theorems as machine
use Rattle.follow.specs.Bounds.{AllInBounds, AllFit32}
use Rattle.follow.specs.Theorems as follow
use Rattle.follow.proofs.Theorems as runs
use Rattle.follow.specs.Meaning.{state_after, answers_after, fired_after, tokens_now, LookExact, FireMeans, Stands}
use Rattle.follow.specs.DriveCalls.{YetToSee, Driven, Reached}
use Rattle.reader.specs.declared.ReadPlan as read
use Rattle.reader.specs.Answer.{told}
use Rattle.calls.specs.declared.Turned as turned
use Rattle.calls.specs.declared.Began as beginning
use Rattle.calls.specs.Answers.{began_of}
use Rattle.demands.specs.Functions as functions
use Rattle.demands.specs.Code as code
use Rattle.demands.specs.Steps.{Steps, replies}

-- ---- demand 1
-- "Every plan image … is answered": accepted, or refused with a number from 1 to 16 and a place.
pub answered : (s : List ℕ) → IsAccepted s ⊎ ((k p : ℕ) × (verdict s ≡ Refused k p) × (1 ≤ k) × (k ≤ 16))
answered = reader.answered

-- "A refused plan gives a number and a place, and nothing of the plan."
pub nothing_of_the_plan : (s : List ℕ) (k p : ℕ) → verdict s ≡ Refused k p → (read_of s).plan ≡ no_plan
nothing_of_the_plan = reader.nothing_of_the_plan

-- "A refused call leaves the run's state unchanged, turn number included.": of any plan value and any state.
pub refused_unchanged : (pl : Plan) (st : State) (c : Call) → IsRefused (turn pl st c).reply → (turn pl st c).state ≡ st
refused_unchanged = machine.refused_unchanged

-- ---- demand 2
-- "A plan is accepted exactly when its layout and Lamport's conditions C0 to C4, as document 01 lists them, hold."
pub accepted_exactly : (s : List ℕ) → IsAccepted s ↔ (Layout s × Upheld (plan_of s))
accepted_exactly = reader.accepted_exactly

-- 01: "The lowest number that applies is given; within it the lowest place."
pub refused_first : (s : List ℕ) (k p : ℕ) → (verdict s ≡ Refused k p) ↔ FirstFault (image_order s) k p
refused_first = reader.refused_first

-- an accepted image, its plan, and a list of calls made from the state that `begin` gives for it
module _ (s : List ℕ) (a : IsAccepted s) where
  abbrev pub plan : Plan
  plan = plan_of s

  -- `read` gives that plan
  pub plan_read : (read_of s).plan ≡ plan
  plan_read = reader.all_of_the_plan s a

  -- and `begin` does not refuse it
  pub begun : begin_run plan ≡ record { number = 0; state = fresh }
  begun = machine.begins plan (reader.accepted_sound s a).shape

  module _ (cs : List Call) where
    -- the nodes fired so far, in order, are a legal firing order of Lamport's marked graph from its starting tokens
    pub follows : Legal (graph_of plan) (graph_of plan).tokens (fired_after plan cs)
    follows = follow.follows plan (reader.accepted_sound s a) cs

    -- positions, open flags, counters and marks stand for it: a process's position is its firings in that round; an open process's unmarked
    -- synchronising in-edge of its next node holds a token; marks lie only on synchronising in-edges of that node
    pub stands : Stands plan (state_after plan cs) (fired_after plan cs)
    stands = follow.stands plan (reader.accepted_sound s a) cs

    -- each counter is its increments times firings, modulo N
    pub counters_are : (c : ℕ) → c < plan.counters
        → at (state_after plan cs).counters c ≡ sum (λ v. share plan.counter plan.increment c v * firings v (fired_after plan cs)) plan.nodes % plan.modulus
    counters_are = follow.counters_are plan (reader.accepted_sound s a) cs

    -- every state reached is in shape
    pub shape_kept : StateInShape plan (state_after plan cs)
    shape_kept = (follow.shape_kept plan (reader.accepted_sound s a).shape cs).0

    -- "a look at an edge still to be seen finds it exactly when Lamport's marked graph, fired in the same order, has a token there"
    pub look_exact : (c : Call) → c.code ≡ 1 → c.process < plan.processes → c.edge < 512 → mark (state_after plan cs) c.process c.edge ≡ 1
        → LookExact (tokens_now plan cs c.edge) c.process (turn plan (state_after plan cs) c)
    look_exact = runs.look_exact plan (reader.accepted_sound s a) cs

    -- "A fire succeeds exactly when the process is open with no edge left to see."
    pub fire_exact : (c : Call) → c.code ≡ 2
        → ((v : ℕ) × ((turn plan (state_after plan cs) c).reply ≡ Fired v))
        ↔ ((c.process < plan.processes) × (at (state_after plan cs).opened c.process ≡ 1) × (marks_left (state_after plan cs) c.process ≡ 0))
    fire_exact = follow.fire_exact plan (reader.accepted_sound s a) cs

    -- and then its node is the process's next, and all its in-edges hold a token, process edges and chords included
    pub fires_fireable : (c : Call) → c.code ≡ 2 → (v : ℕ) → (turn plan (state_after plan cs) c).reply ≡ Fired v
        → FireMeans plan (state_after plan cs) (tokens_now plan cs) c.process v
    fires_fireable = follow.fires_fireable plan (reader.accepted_sound s a) cs

    -- 01: "in a plan with a token on every cycle its token is there whenever its end node is next"
    pub chord : (e p : ℕ) → e < plan.edges → InProcess plan (at plan.source e) p → InProcess plan (at plan.destination e) p
        → at plan.destination e ≡ next_node plan (state_after plan cs) p → 0 < tokens_now plan cs e
    chord = follow.chord plan (reader.accepted_sound s a) cs

    -- ---- demand 3
    -- "if a route leads from node m to node n, n has fired at most as often as m plus the starting tokens on the emptiest such route"
    pub lead : (m n d : ℕ) → Emptiest (graph_of plan) (graph_of plan).tokens m n d
        → firings n (fired_after plan cs) ≤ firings m (fired_after plan cs) + d
    lead = follow.lead plan (reader.accepted_sound s a) cs

    -- "At every point some process, called alone, fires after at most one open, one look at each edge it has yet to see, and one fire."
    pub progress : (p : ℕ) × (p < plan.processes) × Fireable (graph_of plan) (tokens_now plan cs) (next_node plan (state_after plan cs) p)
        × ((es : List ℕ) × YetToSee plan (state_after plan cs) p es
        × Driven plan (state_after plan cs) p (next_node plan (state_after plan cs) p) es)
    progress = runs.progress plan (reader.accepted_sound s a) cs

    -- and so in whichever order it looks at them
    pub any_order : (p : ℕ) → p < plan.processes → Fireable (graph_of plan) (tokens_now plan cs) (next_node plan (state_after plan cs) p)
        → (es : List ℕ) → YetToSee plan (state_after plan cs) p es → Driven plan (state_after plan cs) p (next_node plan (state_after plan cs) p) es
    any_order = runs.driven plan (reader.accepted_sound s a) cs

  -- the emptiest route is there wherever a route is, and is one number
  pub emptiest_there : (m n : ℕ) → m < plan.nodes → Linked (graph_of plan) m n → (d : ℕ) × Emptiest (graph_of plan) (graph_of plan).tokens m n d
  emptiest_there = follow.emptiest_there plan (reader.accepted_sound s a)

  -- 01: "From a node to itself it is 0"
  pub emptiest_self : (n : ℕ) → n < plan.nodes → Emptiest (graph_of plan) (graph_of plan).tokens n n 0
  emptiest_self n h = net.emptiest_self (graph_of plan) (graph_of plan).tokens n

  -- "and some sequence reaches that limit": of calls whose processes and edges are the plan's
  pub lead_reached : (m n d : ℕ) → n < plan.nodes → Emptiest (graph_of plan) (graph_of plan).tokens m n d
      → (cs : List Call) × AllInBounds plan cs × (firings n (fired_after plan cs) ≡ firings m (fired_after plan cs) + d)
  lead_reached = runs.lead_reached plan (reader.accepted_sound s a)

  -- 01: "between them demand 3 sets no lead": where no route leads from m to n, n gets ahead as far as one likes
  pub unlinked_free : (m n : ℕ) → n < plan.nodes → (Linked (graph_of plan) m n → ⊥) → (k : ℕ)
      → (cs : List Call) × AllInBounds plan cs × (firings n (fired_after plan cs) ≡ k) × (firings m (fired_after plan cs) ≡ 0)
  unlinked_free = runs.unlinked_free plan (reader.accepted_sound s a)

  -- such calls are calls that C can make: their numbers fit 32 bits
  pub bounds_fit : (cs : List Call) → AllInBounds plan cs → AllFit32 cs
  bounds_fit = follow.bounds_fit plan (reader.accepted_sound s a)

  -- the machine loses no behaviour: every legal firing order is the firings of a list of such calls, none refused and none waiting
  pub reaches : (t : List ℕ) → Legal (graph_of plan) (graph_of plan).tokens t → Reached plan fresh t
  reaches = runs.reaches plan (reader.accepted_sound s a)

  -- ---- the functions: whatever `read` and `begin` give, and any chain of states and answers in which each step meets what `step` ensures,
  -- is the run of its calls, of which all of the above speaks
  pub of_the_functions : (r : ReadPlan) → r ≡ read_of s → (b : Began) → b ≡ begin_run r.plan
      → (cs : List Call) {rs : List Reply} {end : State} → Chain r.plan b.state cs rs end
      → (b.number ≡ 0) × (rs ≡ answers_after plan cs) × (end ≡ state_after plan cs)
  of_the_functions = functions.of_the_functions s a

  -- the same of the code's own results: what `reader::read`, `calls::begin` and `calls::step` answer, read by the maps of their promises
  pub of_the_code : (r : read.ReadPlan) → told r ≡ read_of s → (b : beginning.Began) → began_of b ≡ begin_run r.plan
      → (cs : List Call) {ts : List turned.Turned} {end : State} → Steps r.plan b.state cs ts end
      → (b.number ≡ 0) × (replies ts ≡ answers_after plan cs) × (end ≡ state_after plan cs)
  of_the_code = code.of_the_code s a
