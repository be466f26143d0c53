-- Demands 1, 2 and 3 for the numbers and states that C is handed: for every image, every accepted plan and every list of calls, refused ones
-- included. A result is whatever meets the promise of its function: `tamsklor_plan_check` v ≡ numbers_of (verdict s), `tamsklor_plan_read`
-- r ≡ numbers_of_read (read_of s), `tamsklor_run_begin` b ≡ numbers_of_begin (begin_run plan), `tamsklor_run_step` and
-- `tamsklor_run_stepped` StepPromise.
-- Statements; each cites its proof. Assumes nothing.
use Rattle.std.specs.Prelude.{◌≡◌, List, map, ◌⊎◌, ◌↔◌, ◌≢◌, ℕ, ◌+◌, ◌≤◌, ◌<◌}
use Rattle.std.proofs.Common.{sym, ap, ◌∙◌, subst}
use Rattle.loops.specs.Choice.{at}
use Rattle.net.specs.Graph.{Legal, Fireable, Emptiest, Linked, firings}
use Rattle.plan.specs.declared.Plan.{Plan}
use Rattle.plan.specs.Value.{graph_of}
use Rattle.plan.specs.Order.{FirstFault}
use Rattle.judge.specs.Answer.{Accepted}
use Rattle.judge.specs.Conditions.{LeastModulus}
use Rattle.judge.specs.Sound.{Upheld, Sound}
use Rattle.image.specs.Image.{plan_of}
use Rattle.reader.specs.Faults.{image_order}
use Rattle.reader.specs.Layout.{Layout}
use Rattle.reader.specs.Tests.{verdict, no_plan, read_of}
use Rattle.reader.specs.Tests.{IsAccepted}
use Rattle.state.specs.declared.State.{State}
use Rattle.machine.specs.Answers.{Began}
use Rattle.machine.specs.Answers.{Reply}
use Rattle.machine.specs.Answers.{Turned}
use Rattle.machine.specs.States.{mark, next_node, fresh, StateInShape}
use Rattle.machine.specs.Calls.{begin_run, marks_left, reading_call}
use Rattle.machine.specs.Runs.{Call}
use Rattle.follow.specs.Bounds.{AllInBounds, AllFit32}
use Rattle.follow.specs.Theorems as follow
use Rattle.follow.specs.Meaning.{tokens_after, state_after, answers_after, fired_after, FireMeans, Stands}
use Rattle.follow.specs.Stands.{follows_stands}
use Rattle.follow.specs.StandsFor.{Follows}
use Rattle.follow.specs.DriveCalls.{YetToSee}
use Rattle.tamsklor.specs.declared.Verdict.{Verdict}
use Rattle.tamsklor.specs.declared.PlanRead.{PlanRead}
use Rattle.tamsklor.specs.declared.Begun.{Begun}
use Rattle.tamsklor.specs.declared.CallAnswer.{CallAnswer}
use Rattle.tamsklor.specs.declared.Stepped.{Stepped}
use Rattle.tamsklor.specs.Numbers.{numbers_of, numbers_of_read, numbers_of_begin, numbers_of_reply, numbers_of_level, StepPromise}
use Rattle.tamsklor.specs.Theorems as tamsklor
use Rattle.demands_c.specs.InNumbers.{StepChain, SteppedChain, told_reply, told_level, told_read, RefusedAlike, AcceptedAlike, nodes_fired, AllGoOn, OpenInNumbers, LookInNumbers, DrivenInNumbers}
use Rattle.demands_c.proofs.NumbersApart as apart
use Rattle.demands_c.proofs.CheckNumbers as check
use Rattle.demands_c.proofs.ChainOfNumbers as chain

-- ---- the plan check
module _ (s : List ℕ) (v : Verdict) (e : v ≡ numbers_of (verdict s)) where
  -- "A plan is accepted exactly when its layout and Lamport's conditions C0 to C4, as document 01 lists them, hold.": number 0 exactly then
  pub check_exactly : (v.number ≡ 0) ↔ (Layout s × Upheld (plan_of s))
  check_exactly = rw e (check.zero_exactly s)

  -- "The lowest number that applies is given; within it the lowest place.": any other number
  pub check_first : (k p : ℕ) → k ≢ 0 → ((v.number ≡ k) × (v.place ≡ p)) ↔ FirstFault (image_order s) k p
  check_first = rw e (check.first_fault s)

  -- "Every plan image … is answered": there are no numbers but 0 to 16
  pub check_answered : v.number ≤ 16
  check_answered = rw e (check.number_most s)

  -- "the least modulus: the smallest N that would pass 15 and 16" after number 0, beside place 0
  pub check_least : v.number ≡ 0 → LeastModulus (plan_of s) v.least × (v.place ≡ 0)
  check_least = rw e (λ z. (check.least_there s z, check.place_none s z))

  -- and 0 after a refusal
  pub check_no_least : v.number ≢ 0 → v.least ≡ 0
  check_no_least = rw e (check.least_none s)

-- ---- the numbers tell every two different answers apart
-- a call's answer is told back by its numbers
pub reply_told : (r : Reply) → told_reply (numbers_of_reply r) ≡ r
reply_told = apart.reply_told

pub replies_apart : (r r' : Reply) → numbers_of_reply r ≡ numbers_of_reply r' → r ≡ r'
replies_apart r r' q = sym (reply_told r) ∙ ap told_reply q ∙ reply_told r'

-- with the state beside it
pub turns_apart : (t t' : Turned) → numbers_of_reply t.reply ≡ numbers_of_reply t'.reply → t.state ≡ t'.state → t ≡ t'
turns_apart t t' q h = apart.same_turned (replies_apart t.reply t'.reply q) h

-- so is a token reading, of whichever plans, states and edges: its refusals are 25 and 27, and number 0 is none of them
pub level_told : (pl : Plan) (st : State) (e : ℕ) → told_level (numbers_of_level (reading_call pl st e)) ≡ reading_call pl st e
level_told = apart.level_told

pub levels_apart : (pl pl' : Plan) (st st' : State) (e e' : ℕ) → numbers_of_level (reading_call pl st e) ≡ numbers_of_level (reading_call pl' st' e')
    → reading_call pl st e ≡ reading_call pl' st' e'
levels_apart pl pl' st st' e e' q = sym (level_told pl st e) ∙ ap told_level q ∙ level_told pl' st' e'

-- so is the reader's answer with the plan beside it
pub read_told : (s : List ℕ) → told_read (numbers_of_read (read_of s)) ≡ read_of s
read_told = apart.read_told

pub reads_apart : (s s' : List ℕ) → numbers_of_read (read_of s) ≡ numbers_of_read (read_of s') → read_of s ≡ read_of s'
reads_apart s s' q = sym (read_told s) ∙ ap told_read q ∙ read_told s'

-- so is a beginning
pub begins_apart : (b b' : Began) → numbers_of_begin b ≡ numbers_of_begin b' → b ≡ b'
begins_apart = apart.begins_apart

-- the plan check alone hands out the least modulus and not Q and N: equal numbers are one refusal at one place, or one least modulus
pub checks_apart : (s s' : List ℕ) → numbers_of (verdict s) ≡ numbers_of (verdict s') → RefusedAlike s s' ⊎ AcceptedAlike s s'
checks_apart = apart.verdicts_alike

-- ---- the plan
module _ (s : List ℕ) (r : PlanRead) (e : r ≡ numbers_of_read (read_of s)) where
  -- its numbers are the plan check's
  pub read_is_check : (v : Verdict) → v ≡ numbers_of (verdict s) → (r.number ≡ v.number) × (r.place ≡ v.place) × (r.least ≡ v.least)
  read_is_check = chain.read_checks s r e

  -- the image is accepted exactly where the number is 0
  pub read_accepts : (r.number ≡ 0) ↔ IsAccepted s
  read_accepts = chain.read_zero s r e

  -- "An accepted plan gives Q, N and the least modulus": Q and N stand in the plan
  pub read_gives : (q modulus least : ℕ) → verdict s ≡ Accepted q modulus least → (r.plan.q ≡ q) × (r.plan.modulus ≡ modulus) × (r.least ≡ least)
  read_gives = rw e (apart.three_numbers s)

  -- "A refused plan gives a number and a place, and nothing of the plan."
  pub read_nothing : r.number ≢ 0 → r.plan ≡ no_plan
  read_nothing = rw e (tamsklor.nothing_handed_out s)

-- ---- one call, of any plan value and any state
-- "A refused call leaves the run's state unchanged, turn number included."
pub refused_unchanged_c : (pl : Plan) (st : State) (c : Call) (n : CallAnswer) (after : State)
    → StepPromise pl st c.code c.process c.edge n after → n.kind ≡ 0 → after ≡ st
refused_unchanged_c pl st c n after kept z =
    kept.1 ∙ tamsklor.refused_in_place pl st c.code c.process c.edge (ap (λ x. x.kind) (sym kept.0) ∙ z)

-- ---- chains of calls, of any plan value and any state
-- every list of calls has a chain of answers and states
pub chain_there : (pl : Plan) (st : State) (cs : List Call) → (ns : List CallAnswer) × (end : State) × StepChain pl st cs ns end
chain_there pl st cs = (_, _, chain.chain_of_run pl cs st)

-- and one only
pub chain_unique : {pl : Plan} {st end end' : State} {cs : List Call} {ns ns' : List CallAnswer} → StepChain pl st cs ns end → StepChain pl st cs ns' end'
    → (ns ≡ ns') × (end ≡ end')
chain_unique = chain.one_chain

-- a chain of results by value, of `tamsklor_run_stepped`, is such a chain: what is said of one is said of the other
pub stepped_chain : {pl : Plan} {st end : State} {cs : List Call} {rs : List Stepped} → SteppedChain pl st cs rs end
    → StepChain pl st cs (map (λ r. r.answer) rs) end
stepped_chain = chain.stepped_chain

-- ---- a run: what `tamsklor_plan_read` hands out for an accepted image, and `tamsklor_run_begin` for its plan
module _ (s : List ℕ) (a : IsAccepted s) (r : PlanRead) (e : r ≡ numbers_of_read (read_of s)) (b : Begun) (f : b ≡ numbers_of_begin (begin_run r.plan)) where
  -- the plan that C then holds is in shape, its processes are processes, and C0 to C4 hold
  pub sound_c : Sound r.plan
  sound_c = chain.read_sound s r e a

  -- neither is refused; the plan is the image's, and the state is fresh
  pub begun_c : (r.number ≡ 0) × (r.plan ≡ plan_of s) × (b.number ≡ 0) × (b.state ≡ fresh)
  begun_c =
      let q = chain.begins r.plan sound_c b f in
      ((read_accepts s r e).1 a, chain.read_plan s r e a, ap (λ x. x.number) q, ap (λ x. x.state) q)

  module _ (cs : List Call) {ns : List CallAnswer} {end : State} (calls : StepChain r.plan b.state cs ns end) where
    from_fresh : StepChain r.plan fresh cs ns end
    from_fresh = subst (λ st. StepChain r.plan st cs ns end) begun_c.3 calls

    -- the chain is the run of its calls, of which all of `demands` speaks
    pub run_of_the_calls : (r.number ≡ 0) × (b.number ≡ 0) × (ns ≡ map numbers_of_reply (answers_after (plan_of s) cs)) × (end ≡ state_after (plan_of s) cs)
    run_of_the_calls =
        let k = chain.numbers_of_run (subst (λ pl. StepChain pl fresh cs ns end) begun_c.1 from_fresh) in
        (begun_c.0, begun_c.2, k.0, k.1)

    -- the nodes that C has seen fire are those that have fired
    pub fired_c : nodes_fired ns ≡ fired_after (plan_of s) cs
    fired_c = chain.nodes_of_run (subst (λ pl. StepChain pl fresh cs ns end) begun_c.1 from_fresh)

    followed : Follows r.plan sound_c end (nodes_fired ns)
    followed = chain.chain_stands r.plan sound_c cs from_fresh

    -- the state stands for them
    pub stands_c : Stands r.plan end (nodes_fired ns)
    stands_c = follows_stands r.plan sound_c end (nodes_fired ns) followed

    -- ---- demand 2
    -- they are a legal firing order of Lamport's marked graph
    pub follows_c : Legal (graph_of r.plan) (graph_of r.plan).tokens (nodes_fired ns)
    follows_c = stands_c.legal

    -- the state is in shape
    pub shape_kept_c : StateInShape r.plan end
    shape_kept_c = stands_c.in_shape

    -- one call more
    module _ (c : Call) (n : CallAnswer) (after : State) (kept : StepPromise r.plan end c.code c.process c.edge n after) where
      -- "Open p: marks the synchronising in-edges of p's next node; answers how many."
      pub open_exact_c : c.code ≡ 0 → c.process < r.plan.processes → at end.opened c.process ≡ 0 → OpenInNumbers r.plan end c.process n after
      open_exact_c = chain.open_numbers r.plan sound_c end (nodes_fired ns) followed c n after kept

      -- "a look at an edge still to be seen finds it exactly when Lamport's marked graph, fired in the same order, has a token there": kind 2
      -- exactly where it has one, kind 3 exactly where it has none
      pub look_exact_c : c.code ≡ 1 → c.process < r.plan.processes → c.edge < 512 → mark end c.process c.edge ≡ 1
          → LookInNumbers (tokens_after r.plan (nodes_fired ns) c.edge) c.process n after
      look_exact_c = chain.look_numbers r.plan sound_c end (nodes_fired ns) followed c n after kept

      -- "A fire succeeds exactly when the process is open with no edge left to see.": kind 4
      pub fire_exact_c : c.code ≡ 2
          → (n.kind ≡ 4) ↔ ((c.process < r.plan.processes) × (at end.opened c.process ≡ 1) × (marks_left end c.process ≡ 0))
      fire_exact_c = chain.fire_numbers r.plan sound_c end (nodes_fired ns) followed c n after kept

      -- and then its value is the process's next node, all of whose in-edges hold a token
      pub fires_fireable_c : c.code ≡ 2 → n.kind ≡ 4 → FireMeans r.plan end (tokens_after r.plan (nodes_fired ns)) c.process n.value
      fires_fireable_c = chain.fired_means r.plan sound_c end (nodes_fired ns) followed c n after kept

    -- ---- demand 3
    -- "if a route leads from node m to node n, n has fired at most as often as m plus the starting tokens on the emptiest such route"
    pub lead_c : (m n d : ℕ) → Emptiest (graph_of r.plan) (graph_of r.plan).tokens m n d
        → firings n (nodes_fired ns) ≤ firings m (nodes_fired ns) + d
    lead_c m n d = chain.lead_numbers r.plan sound_c from_fresh m n d

    -- "At every point some process, called alone, fires after at most one open, one look at each edge it has yet to see, and one fire."
    pub progress_c : (p : ℕ) × (p < r.plan.processes)
        × Fireable (graph_of r.plan) (tokens_after r.plan (nodes_fired ns)) (next_node r.plan end p)
        × ((es : List ℕ) × YetToSee r.plan end p es × DrivenInNumbers r.plan end p (next_node r.plan end p) es)
    progress_c = chain.some_driven r.plan sound_c end (nodes_fired ns) followed

    -- and so in whichever order it looks at them
    pub any_order_c : (p : ℕ) → p < r.plan.processes
        → Fireable (graph_of r.plan) (tokens_after r.plan (nodes_fired ns)) (next_node r.plan end p)
        → (es : List ℕ) → YetToSee r.plan end p es → DrivenInNumbers r.plan end p (next_node r.plan end p) es
    any_order_c = chain.driven_numbers r.plan sound_c end (nodes_fired ns) followed

  -- the run of results by value
  pub run_of_the_stepped : (cs : List Call) {rs : List Stepped} {end : State} → SteppedChain r.plan b.state cs rs end
      → (map (λ r. r.answer) rs ≡ map numbers_of_reply (answers_after (plan_of s) cs)) × (end ≡ state_after (plan_of s) cs)
  run_of_the_stepped cs calls = let k = run_of_the_calls cs (stepped_chain calls) in (k.2, k.3)

  -- the emptiest route is there wherever a route is
  pub emptiest_there_c : (m n : ℕ) → m < r.plan.nodes → Linked (graph_of r.plan) m n
      → (d : ℕ) × Emptiest (graph_of r.plan) (graph_of r.plan).tokens m n d
  emptiest_there_c = follow.emptiest_there r.plan sound_c

  -- "and some sequence reaches that limit": calls that C can make, whatever numbers it is handed for them
  pub lead_reached_c : (m n d : ℕ) → n < r.plan.nodes → Emptiest (graph_of r.plan) (graph_of r.plan).tokens m n d
      → (cs : List Call) × AllInBounds r.plan cs × AllFit32 cs
      × ((ns : List CallAnswer) (end : State) → StepChain r.plan b.state cs ns end → firings n (nodes_fired ns) ≡ firings m (nodes_fired ns) + d)
  lead_reached_c m n d h x = chain.lead_reached_numbers r.plan sound_c b.state begun_c.3 m n d h x

  -- 01: "between them demand 3 sets no lead": where no route leads from m to n, n gets ahead as far as one likes
  pub unlinked_free_c : (m n : ℕ) → n < r.plan.nodes → (Linked (graph_of r.plan) m n → ⊥) → (k : ℕ)
      → (cs : List Call) × AllInBounds r.plan cs × AllFit32 cs
      × ((ns : List CallAnswer) (end : State) → StepChain r.plan b.state cs ns end
      → (firings n (nodes_fired ns) ≡ k) × (firings m (nodes_fired ns) ≡ 0))
  unlinked_free_c m n h none k = chain.unlinked_free_numbers r.plan sound_c b.state begun_c.3 m n h none k

  -- no behaviour is lost: every legal firing order is what C sees fire for some calls that it can make, none refused and none waiting
  pub reaches_c : (t : List ℕ) → Legal (graph_of r.plan) (graph_of r.plan).tokens t
      → (cs : List Call) × AllInBounds r.plan cs × AllFit32 cs
      × ((ns : List CallAnswer) (end : State) → StepChain r.plan b.state cs ns end → (nodes_fired ns ≡ t) × AllGoOn ns)
  reaches_c t l = chain.reaches_numbers r.plan sound_c b.state begun_c.3 t l
