-- A chain of C's calls is the run of its calls: what holds of runs holds of the numbers that C is handed.
-- Assumes nothing.
use Rattle.std.specs.Prelude.{◌≡◌, refl, List, [], ◌∷◌, ◌++◌, map, ◌↔◌, ℕ, ◌+◌, ◌≤◌, ◌<◌}
use Rattle.std.proofs.Math.Path.{sym, ap, subst, subst₂}
use Rattle.std.proofs.Common.{ap₂, ◌∙◌, arith}
use Rattle.std.proofs.Math.Decide.{dec_lt}
use Rattle.loops.specs.Choice.{at, if}
use Rattle.net.specs.Graph.{Fireable, Legal, Emptiest, Linked, firings}
use Rattle.plan.specs.declared.Plan.{Plan}
use Rattle.plan.specs.Value.{graph_of}
use Rattle.judge.specs.Sound.{Sound}
use Rattle.image.specs.Image.{plan_of}
use Rattle.reader.specs.Tests.{verdict, read_of}
use Rattle.reader.specs.Theorems as reader
use Rattle.reader.specs.Tests.{IsAccepted}
use Rattle.state.specs.declared.State.{State}
use Rattle.machine.specs.Answers.{Reply}
use Rattle.machine.specs.Answers.{Opened, Found, Wait, Fired, Refused}
use Rattle.machine.specs.Answers.{Turned}
use Rattle.machine.specs.States.{mark, next_node, fresh}
use Rattle.machine.specs.Calls.{begin_run, marks_left}
use Rattle.machine.specs.Runs.{Call, turn, replies, last_state, fired_by, fired_in, run_firings}
use Rattle.machine.specs.OpenExact.{OpenExact, open_is_exact}
use Rattle.machine.specs.Theorems as machine
use Rattle.follow.specs.Bounds.{AllInBounds, AllFit32}
use Rattle.follow.specs.Theorems as follow
use Rattle.follow.proofs.Theorems as runs
use Rattle.follow.specs.Meaning.{tokens_after, LookExact, FireMeans}
use Rattle.follow.specs.StandsFor.{Follows}
use Rattle.follow.specs.Follows.{reached_follows}
use Rattle.follow.proofs.LookExact.{look_is_exact}
use Rattle.follow.specs.FireExact.{fire_fires, fire_exactly}
use Rattle.follow.specs.DriveCalls.{drive, YetToSee, Goes, AllGo}
use Rattle.follow.specs.Driven.{some_process}
use Rattle.follow.proofs.Driven.{driven, yet_to_see}
use Rattle.tamsklor.specs.declared.PlanRead.{PlanRead}
use Rattle.tamsklor.specs.declared.Verdict.{Verdict}
use Rattle.tamsklor.specs.declared.Begun.{Begun}
use Rattle.tamsklor.specs.declared.CallAnswer.{CallAnswer}
use Rattle.tamsklor.specs.declared.Stepped.{Stepped}
use Rattle.tamsklor.specs.Numbers.{numbers_of, beside_plan, numbers_of_read, numbers_of_begin, numbers_of_reply, StepPromise}
use Rattle.demands_c.specs.InNumbers.{StepChain, SteppedChain, node_of, nodes_fired, GoesOn, AllGoOn, OpenInNumbers, LookInNumbers, DrivenInNumbers}
use Rattle.demands_c.proofs.NumbersApart.{kind_found, kind_wait, kind_fired}
use Rattle.demands_c.proofs.CheckNumbers.{zero_alone, accepted_zero}

-- ---- a chain is a run
-- the numbers and the last state of a chain are the run's
pub numbers_of_run : {pl : Plan} {st end : State} {cs : List Call} {ns : List CallAnswer} → StepChain pl st cs ns end
    → (ns ≡ map numbers_of_reply (replies pl st cs)) × (end ≡ last_state pl st cs)
unfolding replies last_state turn
numbers_of_run StepChain.done = (refl, refl)
numbers_of_run {pl} (StepChain.then {st = st} {after = after} {end = end} {c = c} {cs = cs} {n = n} {ns = ns} kept rest) =
    let r = numbers_of_run rest in (
      ap₂ ◌∷◌ kept.0 (r.0 ∙ ap (λ x. map numbers_of_reply (replies pl x cs)) kept.1),
      r.1 ∙ ap (λ x. last_state pl x cs) kept.1,
    )

-- there is one for every list of calls
pub chain_of_run : (pl : Plan) (cs : List Call) (st : State) → StepChain pl st cs (map numbers_of_reply (replies pl st cs)) (last_state pl st cs)
unfolding replies last_state turn
chain_of_run pl [] st = StepChain.done
chain_of_run pl (c ∷ cs) st = StepChain.then (refl, refl) (chain_of_run pl cs (turn pl st c).state)

-- and one only
pub one_chain : {pl : Plan} {st end end' : State} {cs : List Call} {ns ns' : List CallAnswer} → StepChain pl st cs ns end → StepChain pl st cs ns' end'
    → (ns ≡ ns') × (end ≡ end')
one_chain a b =
    let x = numbers_of_run a in
    let y = numbers_of_run b in
    (x.0 ∙ sym y.0, x.1 ∙ sym y.1)

-- a chain of results by value is one
pub stepped_chain : {pl : Plan} {st end : State} {cs : List Call} {rs : List Stepped} → SteppedChain pl st cs rs end
    → StepChain pl st cs (map (λ r. r.answer) rs) end
stepped_chain SteppedChain.done = StepChain.done
stepped_chain (SteppedChain.then kept rest) = StepChain.then kept (stepped_chain rest)

-- ---- the numbers of answers
-- the node that they say has fired
node_is : (r : Reply) → node_of (numbers_of_reply r) ≡ fired_by r
unfolding node_of numbers_of_reply fired_by if
node_is (Opened k) = refl
node_is (Found k) = refl
node_is (Wait k) = refl
node_is (Fired v) = refl
node_is (Refused k) = refl

nodes_are : (rs : List Reply) → nodes_fired (map numbers_of_reply rs) ≡ fired_in rs
unfolding nodes_fired fired_in
nodes_are [] = refl
nodes_are (r ∷ rs) = ap₂ ◌++◌ (node_is r) (nodes_are rs)

-- the nodes that a chain's numbers say are the firings of its calls
pub nodes_of_run : {pl : Plan} {st end : State} {cs : List Call} {ns : List CallAnswer} → StepChain pl st cs ns end → nodes_fired ns ≡ run_firings pl st cs
unfolding run_firings
nodes_of_run {pl} {st} {cs = cs} c = ap nodes_fired (numbers_of_run c).0 ∙ nodes_are (replies pl st cs)

-- an answer that goes on has another kind than 0 and 3
goes_on : (r : Reply) → Goes r → GoesOn (numbers_of_reply r)
unfolding Goes GoesOn numbers_of_reply
goes_on (Opened k) g = (λ z. omega arith, λ z. omega arith)
goes_on (Found k) g = (λ z. omega arith, λ z. omega arith)
goes_on (Wait k) g = absurd g
goes_on (Fired v) g = (λ z. omega arith, λ z. omega arith)
goes_on (Refused k) g = absurd g

all_go_on : (rs : List Reply) → AllGo rs → AllGoOn (map numbers_of_reply rs)
unfolding AllGo AllGoOn
all_go_on [] g = tt
all_go_on (r ∷ rs) g = (goes_on r g.0, all_go_on rs g.1)

-- ---- one call
-- an open
open_told : (pl : Plan) (st : State) (p : ℕ) (t : Turned) → OpenExact pl st p t → OpenInNumbers pl st p (numbers_of_reply t.reply) t.state
unfolding numbers_of_reply
open_told pl st p t x =
    record {
      kind_is = ap (λ r. (numbers_of_reply r).kind) x.answers;
      left = ap (λ r. (numbers_of_reply r).value) x.answers;
      is_open = x.is_open;
      marks = x.marks;
    }

-- a look
look_told : (tokens p : ℕ) (t : Turned) → LookExact tokens p t → LookInNumbers tokens p (numbers_of_reply t.reply) t.state
unfolding numbers_of_reply
look_told tokens p t x =
    record {
      found = (λ k. x.found.0 (_, kind_found t.reply k), λ l. ap (λ r. (numbers_of_reply r).kind) (x.found.1 l).1);
      waits = (λ k. x.waits.0 (_, kind_wait t.reply k), λ z. ap (λ r. (numbers_of_reply r).kind) (x.waits.1 z).1);
      left =
          elim (dec_lt 0 tokens) [
            | yes l ↦ let w = x.found.1 l in ap (λ r. (numbers_of_reply r).value) w.1 ∙ x.found_left w.0 w.1
            | no l ↦ let w = x.waits.1 (omega arith) in ap (λ r. (numbers_of_reply r).value) w.1 ∙ x.wait_left w.0 w.1
          ];
    }

-- a fire
fired_told : (r : Reply) → ((numbers_of_reply r).kind ≡ 4) ↔ ((v : ℕ) × (r ≡ Fired v))
unfolding numbers_of_reply
fired_told r = (λ k. (_, kind_fired r k), λ w. ap (λ r. (numbers_of_reply r).kind) w.1)

module _ (pl : Plan) (sound : Sound pl) (st : State) (s : List ℕ) (f : Follows pl sound st s) where
  module _ (c : Call) (n : CallAnswer) (after : State) (kept : StepPromise pl st c.code c.process c.edge n after) where
    pub open_numbers : c.code ≡ 0 → c.process < pl.processes → at st.opened c.process ≡ 0 → OpenInNumbers pl st c.process n after
    unfolding turn
    open_numbers z h o =
        subst₂ (OpenInNumbers pl st c.process) (sym kept.0) (sym kept.1)
        (open_told pl st c.process (turn pl st c) (open_is_exact pl sound.shape st f.kept c.process h o c z refl))

    pub look_numbers : c.code ≡ 1 → c.process < pl.processes → c.edge < 512 → mark st c.process c.edge ≡ 1
        → LookInNumbers (tokens_after pl s c.edge) c.process n after
    unfolding turn
    look_numbers z h k m =
        subst₂ (LookInNumbers (tokens_after pl s c.edge) c.process) (sym kept.0) (sym kept.1)
        (look_told (tokens_after pl s c.edge) c.process (turn pl st c) (look_is_exact pl sound st s f c z h k m))

    pub fire_numbers : c.code ≡ 2 → (n.kind ≡ 4) ↔ ((c.process < pl.processes) × (at st.opened c.process ≡ 1) × (marks_left st c.process ≡ 0))
    unfolding turn
    fire_numbers z =
        let told = fired_told (turn pl st c).reply in
        let exactly = fire_exactly pl sound st s f c z in (
          λ k. exactly.0 (told.0 (ap (λ x. x.kind) (sym kept.0) ∙ k)),
          λ h. ap (λ x. x.kind) kept.0 ∙ told.1 (exactly.1 h),
        )

    pub fired_means : c.code ≡ 2 → n.kind ≡ 4 → FireMeans pl st (tokens_after pl s) c.process n.value
    unfolding turn
    fired_means z k =
        subst (FireMeans pl st (tokens_after pl s) c.process) (ap (λ x. x.value) (sym kept.0))
        (fire_fires pl sound st s f c z _ (kind_fired (turn pl st c).reply (ap (λ x. x.kind) (sym kept.0) ∙ k)))

  -- a process whose next node may fire, called alone
  pub driven_numbers : (p : ℕ) → p < pl.processes → Fireable (graph_of pl) (tokens_after pl s) (next_node pl st p) → (es : List ℕ) → YetToSee pl st p es
      → DrivenInNumbers pl st p (next_node pl st p) es
  driven_numbers p h may es l =
      let d = driven pl sound st s f p h may es l in
      record {
        alone = d.alone;
        bounds = d.bounds;
        goes = λ c. subst AllGoOn (sym (numbers_of_run c).0) (all_go_on (replies pl st (drive st p es)) d.goes);
        fires = λ c. nodes_of_run c ∙ d.fires;
      }

  -- there is one
  pub some_driven : (p : ℕ) × (p < pl.processes) × Fireable (graph_of pl) (tokens_after pl s) (next_node pl st p)
      × ((es : List ℕ) × YetToSee pl st p es × DrivenInNumbers pl st p (next_node pl st p) es)
  some_driven =
      let t = some_process pl sound st s f in
      let es = yet_to_see pl sound st s f t.0 t.1 in
      (t.0, t.1, t.2, (es.0, es.1, driven_numbers t.0 t.1 t.2 es.0 es.1))

-- ---- from what C is handed for an image
module _ (s : List ℕ) (r : PlanRead) (e : r ≡ numbers_of_read (read_of s)) where
  -- number 0 exactly where the image is accepted
  pub read_zero : (r.number ≡ 0) ↔ IsAccepted s
  unfolding numbers_of_read beside_plan read_of
  read_zero = rw e (zero_alone s, accepted_zero s)

  -- the plan is the image's
  pub read_plan : IsAccepted s → r.plan ≡ plan_of s
  unfolding numbers_of_read beside_plan
  read_plan a = ap (λ x. x.plan) e ∙ reader.all_of_the_plan s a

  pub read_sound : IsAccepted s → Sound r.plan
  read_sound a = subst Sound (sym (read_plan a)) (reader.accepted_sound s a)

  -- the numbers are the plan check's
  pub read_checks : (v : Verdict) → v ≡ numbers_of (verdict s) → (r.number ≡ v.number) × (r.place ≡ v.place) × (r.least ≡ v.least)
  unfolding numbers_of_read beside_plan read_of
  read_checks v q = (
    ap (λ x. x.number) e ∙ sym (ap (λ x. x.number) q),
    ap (λ x. x.place) e ∙ sym (ap (λ x. x.place) q),
    ap (λ x. x.least) e ∙ sym (ap (λ x. x.least) q),
  )

-- a sound plan begins with a fresh state
pub begins : (pl : Plan) → Sound pl → (b : Begun) → b ≡ numbers_of_begin (begin_run pl) → b ≡ record { number = 0; state = fresh }
unfolding numbers_of_begin
begins pl sound b f = f ∙ ap numbers_of_begin (machine.begins pl sound.shape)

-- the last state of a chain from a fresh state stands for the nodes that its numbers say
pub chain_stands : (pl : Plan) (sound : Sound pl) (cs : List Call) {ns : List CallAnswer} {end : State} → StepChain pl fresh cs ns end
    → Follows pl sound end (nodes_fired ns)
chain_stands pl sound cs c = subst₂ (Follows pl sound) (sym (numbers_of_run c).1) (sym (nodes_of_run c)) (reached_follows pl sound cs)

-- ---- demand 3
module _ (pl : Plan) (sound : Sound pl) where
  pub lead_numbers : {cs : List Call} {ns : List CallAnswer} {end : State} → StepChain pl fresh cs ns end
      → (m n d : ℕ) → Emptiest (graph_of pl) (graph_of pl).tokens m n d → firings n (nodes_fired ns) ≤ firings m (nodes_fired ns) + d
  lead_numbers {cs} c m n d a = subst (λ s. firings n s ≤ firings m s + d) (sym (nodes_of_run c)) (follow.lead pl sound cs m n d a)

  module _ (st : State) (q : st ≡ fresh) where
    -- the nodes that a chain from there says
    nodes_from : {cs : List Call} {ns : List CallAnswer} {end : State} → StepChain pl st cs ns end → nodes_fired ns ≡ run_firings pl fresh cs
    nodes_from {cs} {ns} {end} c = nodes_of_run (subst (λ x. StepChain pl x cs ns end) q c)

    pub lead_reached_numbers : (m n d : ℕ) → n < pl.nodes → Emptiest (graph_of pl) (graph_of pl).tokens m n d
        → (cs : List Call) × AllInBounds pl cs × AllFit32 cs
        × ((ns : List CallAnswer) (end : State) → StepChain pl st cs ns end → firings n (nodes_fired ns) ≡ firings m (nodes_fired ns) + d)
    lead_reached_numbers m n d h a =
        let t = runs.lead_reached pl sound m n d h a in
        (t.0, t.1, follow.bounds_fit pl sound t.0 t.1, λ ns end c. subst (λ s. firings n s ≡ firings m s + d) (sym (nodes_from c)) t.2)

    pub unlinked_free_numbers : (m n : ℕ) → n < pl.nodes → (Linked (graph_of pl) m n → ⊥) → (k : ℕ)
        → (cs : List Call) × AllInBounds pl cs × AllFit32 cs
        × ((ns : List CallAnswer) (end : State) → StepChain pl st cs ns end → (firings n (nodes_fired ns) ≡ k) × (firings m (nodes_fired ns) ≡ 0))
    unlinked_free_numbers m n h none k =
        let t = runs.unlinked_free pl sound m n h none k in
        (t.0, t.1, follow.bounds_fit pl sound t.0 t.1, λ ns end c. (ap (firings n) (nodes_from c) ∙ t.2, ap (firings m) (nodes_from c) ∙ t.3))

    pub reaches_numbers : (t : List ℕ) → Legal (graph_of pl) (graph_of pl).tokens t
        → (cs : List Call) × AllInBounds pl cs × AllFit32 cs
        × ((ns : List CallAnswer) (end : State) → StepChain pl st cs ns end → (nodes_fired ns ≡ t) × AllGoOn ns)
    reaches_numbers t l =
        let x = runs.reaches pl sound t l in (
          x.calls,
          x.bounds,
          follow.bounds_fit pl sound x.calls x.bounds,
          λ ns end c. (
            nodes_from c ∙ x.fires,
            subst AllGoOn (sym (numbers_of_run (subst (λ y. StepChain pl y x.calls ns end) q c)).0) (all_go_on (replies pl fresh x.calls) x.goes),
          ),
        )
