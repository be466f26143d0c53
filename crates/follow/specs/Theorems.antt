-- The theorems about runs of an accepted plan, over every list of calls from a fresh state, refused ones included. Each cites its proof.
-- What a look answers, and what calls reach, stands in proofs/Theorems.
-- Assumes nothing.
use Rattle.std.specs.Prelude.{◌≡◌, refl, true, List, ◌↔◌, ℕ, ◌+◌, ◌*◌, ◌%◌, ◌≤◌, ◌<◌}
use Rattle.std.proofs.Math.Logic.{inl, inr}
use Rattle.std.proofs.Common.{arith}
use Rattle.loops.specs.Choice.{at}
use Rattle.loops.specs.Sum.{sum}
use Rattle.net.specs.Graph.{firings, tokens_on, Route, Legal, Emptiest, Linked}
use Rattle.net.specs.Tables.{graph_of_tables}
use Rattle.net.proofs.Emptiest.{emptiest_or_none}
use Rattle.net.specs.Tokens as token_laws
use Rattle.plan.specs.declared.Plan.{Plan}
use Rattle.plan.specs.Value.{graph_of, InProcess, share}
use Rattle.plan.specs.Faults.{InShape}
use Rattle.plan.specs.Formed.{formed, shaped}
use Rattle.judge.specs.Sound.{Sound}
use Rattle.state.specs.declared.State.{State}
use Rattle.machine.specs.Answers.{Reply}
use Rattle.machine.specs.Answers.{Fired, Refused}
use Rattle.machine.specs.States.{next_node, fresh, Sized, StateInShape}
use Rattle.machine.specs.Calls.{marks_left, both_fit}
use Rattle.machine.specs.Runs.{Call, turn, replies, Chain}
use Rattle.machine.specs.ShapeKept as kept
use Rattle.machine.specs.ShapeKept.{kept_exactly, reached_kept}
use Rattle.follow.specs.Bounds.{AllInBounds, AllFit32}
use Rattle.follow.specs.PlanSeats.{tables}
use Rattle.follow.specs.Meaning.{FireMeans, state_after, fired_after, tokens_now, Stands}
use Rattle.follow.specs.StandsFor.{Follows}
use Rattle.follow.specs.Follows.{reached_follows}
use Rattle.follow.specs.Stands.{follows_stands}
use Rattle.machine.specs.OpenExact.{OpenExact, open_is_exact}
use Rattle.follow.specs.FireExact.{fire_fires, fire_exactly, chord_token}
use Rattle.follow.specs.InBounds as bounds
use Rattle.follow.specs.Chain.{chain_is_run}

-- ---- the shape
module _ (pl : Plan) (shape : InShape pl) where
  -- every state reached is in shape, with lists of the right lengths
  pub shape_kept : (cs : List Call) → StateInShape pl (state_after pl cs) × Sized (state_after pl cs)
  shape_kept cs = (kept_exactly pl shape (state_after pl cs)).0 (reached_kept pl shape cs)

  -- so plan and state pass the test of both
  pub fits_kept : (cs : List Call) → both_fit pl (state_after pl cs) ≡ true
  fits_kept cs = kept.kept_fits pl shape (state_after pl cs) (reached_kept pl shape cs)

  -- and no call is answered with 25
  pub never_25 : (cs : List Call) (c : Call) → (turn pl (state_after pl cs) c).reply ≡ Refused 25 → ⊥
  never_25 cs c = kept.never_25 pl shape (state_after pl cs) (reached_kept pl shape cs) c

module _ (pl : Plan) (sound : Sound pl) (cs : List Call) where
  -- ---- the run follows the marked graph
  followed : Follows pl sound (state_after pl cs) (fired_after pl cs)
  followed = reached_follows pl sound cs

  -- the firings so far are a legal firing order
  pub follows : Legal (graph_of pl) (graph_of pl).tokens (fired_after pl cs)
  follows = followed.stands.legal

  -- positions, open flags, counters and marks stand for it
  pub stands : Stands pl (state_after pl cs) (fired_after pl cs)
  stands = follows_stands pl sound (state_after pl cs) (fired_after pl cs) followed

  -- each counter is its increments times the firings, modulo N
  pub counters_are : (c : ℕ) → c < pl.counters
      → at (state_after pl cs).counters c ≡ sum (λ v. share pl.counter pl.increment c v * firings v (fired_after pl cs)) pl.nodes % pl.modulus
  counters_are = stands.counted

  -- ---- demand 2
  -- an open of a closed process marks exactly the synchronising in-edges of its next node, and answers how many they are
  pub open_exact : (c : Call) → c.code ≡ 0 → c.process < pl.processes → at (state_after pl cs).opened c.process ≡ 0
      → OpenExact pl (state_after pl cs) c.process (turn pl (state_after pl cs) c)
  open_exact c z h o = open_is_exact pl sound.shape (state_after pl cs) followed.kept c.process h o c z refl

  -- a fire call fires exactly where its process is open with no mark left
  pub fire_exact : (c : Call) → c.code ≡ 2
      → ((v : ℕ) × ((turn pl (state_after pl cs) c).reply ≡ Fired v))
      ↔ ((c.process < pl.processes) × (at (state_after pl cs).opened c.process ≡ 1) × (marks_left (state_after pl cs) c.process ≡ 0))
  fire_exact = fire_exactly pl sound (state_after pl cs) (fired_after pl cs) followed

  -- what it fires is the process's next node, and every in-edge of it holds a token, process edges and chords included
  pub fires_fireable : (c : Call) → c.code ≡ 2 → (v : ℕ) → (turn pl (state_after pl cs) c).reply ≡ Fired v
      → FireMeans pl (state_after pl cs) (tokens_now pl cs) c.process v
  fires_fireable = fire_fires pl sound (state_after pl cs) (fired_after pl cs) followed

  -- an edge inside a process holds a token whenever its end node is next
  pub chord : (e p : ℕ) → e < pl.edges → InProcess pl (at pl.source e) p → InProcess pl (at pl.destination e) p
      → at pl.destination e ≡ next_node pl (state_after pl cs) p → 0 < tokens_now pl cs e
  chord = chord_token pl sound (state_after pl cs) (fired_after pl cs) followed

  -- ---- demand 3
  -- no node gets ahead of another by more than the starting tokens of a route
  pub lead_on_route : (es : List ℕ) (m n : ℕ) → Route (graph_of pl) m es n
      → firings n (fired_after pl cs) ≤ firings m (fired_after pl cs) + tokens_on (graph_of pl).tokens es
  lead_on_route = token_laws.lead (graph_of pl) (graph_of pl).tokens (fired_after pl cs) follows

  -- hence by no more than those of the emptiest
  pub lead : (m n d : ℕ) → Emptiest (graph_of pl) (graph_of pl).tokens m n d → firings n (fired_after pl cs) ≤ firings m (fired_after pl cs) + d
  lead m n d a = omega (arith, lead_on_route a.some.0 m n a.some.1, a.some.2)

module _ (pl : Plan) (sound : Sound pl) where
  -- calls in bounds are calls that C can make
  pub bounds_fit : (cs : List Call) → AllInBounds pl cs → AllFit32 cs
  bounds_fit = bounds.bounds_fit pl (tables pl sound).counts

  -- wherever a route leads from m to n, there is an emptiest one
  pub emptiest_there : (m n : ℕ) → m < pl.nodes → Linked (graph_of pl) m n → (d : ℕ) × Emptiest (graph_of pl) (graph_of pl).tokens m n d
  unfolding graph_of graph_of_tables
  emptiest_there m n h linked =
      elim (emptiest_or_none (graph_of pl) (graph_of pl).tokens (shaped pl (formed pl sound.shape).tables) m n h) [
        | inl t ↦ t
        | inr f ↦ absurd (f linked)
      ]

-- ---- the functions
-- results that are equal to the definition's, call after call, are the run's: so all of the above holds of them
pub chain : (pl : Plan) (cs : List Call) {rs : List Reply} {end : State} → Chain pl fresh cs rs end
    → (rs ≡ replies pl fresh cs) × (end ≡ state_after pl cs)
chain pl cs c = chain_is_run c
