-- A state beside the marked graph: what it says of an accepted plan's run that the state stands for a list of firings.
-- Assumes nothing.
use Rattle.std.specs.Prelude.{◌≡◌, List, []}
use Rattle.std.proofs.Math.Path.{sym, ap}
use Rattle.std.proofs.Common.{◌∙◌, arith}
use Prim.Native.Nat.{ℕ, ◌%◌, ◌<◌}
use Rattle.std.proofs.Math.Nat.{zero-mod}
use Rattle.loops.specs.Choice.{at}
use Rattle.net.specs.Graph.{Legal, firings}
use Rattle.net.specs.Processes.{Next}
use Rattle.net.specs.Seating.{seats_of}
use Rattle.plan.specs.declared.Plan.{Plan}
use Rattle.plan.specs.Value.{graph_of, node_at}
use Rattle.judge.specs.Sound.{Sound}
use Rattle.state.specs.declared.State.{State}
use Rattle.machine.specs.States.{mark, next_node, fresh}
use Rattle.machine.specs.FreshState.{fresh_position, fresh_opened, fresh_counter}
use Rattle.machine.specs.KeptByCalls.{Kept, fresh_kept}
use Rattle.follow.specs.Counters.{added_none}
use Rattle.follow.specs.Beside.{Beside}
use Rattle.follow.specs.PlanSeats.{tables, shaped, seats, counters}

module _ (pl : Plan) (sound : Sound pl) where
  -- the state's lists stand for the firings of a list
  abbrev pub StandsFor : State → List ℕ → Type 0
  StandsFor st s = Beside (graph_of pl) (seats pl sound) (counters pl sound) (at st.positions) (at st.opened) (at st.counters) (mark st) s

  -- a state in shape that stands for the firings of a list
  pub record Follows (st : State) (s : List ℕ) : Type 0 where
    pub kept : Kept pl st
    pub stands : StandsFor st s

  -- the next node of a process: a node, in that process, at its position
  pub record NextNode (st : State) (p : ℕ) : Type 0 where
    pub node_lt : next_node pl st p < (graph_of pl).nodes
    pub home_is : (seats pl sound).home (next_node pl st p) ≡ p
    pub next : Next (graph_of pl) (seats pl sound) (at st.positions) (next_node pl st p)

  -- it is that
  pub next_node_is : (st : State) → Kept pl st → (p : ℕ) → p < pl.processes → NextNode st p
  unfolding next_node node_at seats seats_of
  next_node_is st kept p h =
      let S = seats pl sound in
      let position : ℕ = at st.positions p in
      let fits : position < at pl.lengths p = (kept.parts.positions p (omega (arith, (tables pl sound).counts))).known h in
      let home_p : S.home (node_at pl p position) ≡ p = S.home_node p h position fits in
      record {
        node_lt = S.node_lt p h position fits;
        home_is = home_p;
        next = S.seat_node p h position fits ∙ ap (at st.positions) (sym home_p);
      }

  -- an edge whose end is next leads to its process's next node
  pub destination_is : (st : State) (e : ℕ) → e < (graph_of pl).edges → Next (graph_of pl) (seats pl sound) (at st.positions) ((graph_of pl).destination e)
      → (graph_of pl).destination e ≡ next_node pl st ((seats pl sound).home ((graph_of pl).destination e))
  unfolding next_node node_at seats seats_of
  destination_is st e h next =
      let S = seats pl sound in
      let n = (graph_of pl).destination e in
      sym (S.node_of n ((shaped pl sound).destination_lt e h)) ∙ ap (node_at pl (S.home n)) next

  -- a fresh state stands for no firings
  pub fresh_follows : Follows fresh []
  unfolding Legal seats seats_of firings
  fresh_follows =
      record {
        kept = fresh_kept pl sound.shape;
        stands = record {
          legal = tt;
          rounds = λ p. 0;
          standing = record {
            fits = λ p h. omega (arith, fresh_position p, (tables pl sound).length_some p h);
            fired = λ v h. omega (arith, fresh_position ((seats pl sound).home v));
          };
          counted = λ c h.
              fresh_counter c ∙ sym (ap (◌% (counters pl sound).n) (added_none (graph_of pl) (seats pl sound) (counters pl sound) c) ∙ zero-mod (counters pl sound).n);
          seen = λ e h d next o z. absurd (omega (arith, fresh_opened ((seats pl sound).home ((graph_of pl).destination e))));
        };
      }
