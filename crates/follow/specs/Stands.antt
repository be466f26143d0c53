-- A state of an accepted plan's run stands for its firings, in the words of the plan.
-- Assumes nothing.
use Rattle.std.specs.Prelude.{◌≡◌, List, ℕ, ◌+◌, ◌*◌, ◌%◌, ◌<◌}
use Rattle.std.proofs.Math.Path.{ap}
use Rattle.std.proofs.Common.{◌∙◌, subst, arith}
use Rattle.loops.specs.Choice.{at}
use Rattle.loops.specs.Sum.{sum}
use Rattle.net.specs.Graph.{firings}
use Rattle.net.specs.Processes.{before}
use Rattle.net.specs.Seating.{seats_of}
use Rattle.net.specs.Tables.{graph_of_tables}
use Rattle.plan.specs.declared.Plan.{Plan}
use Rattle.plan.specs.Value.{graph_of, node_at, Synchronising, share}
use Rattle.judge.specs.Sound.{Sound}
use Rattle.state.specs.declared.State.{State}
use Rattle.machine.specs.States.{mark, next_node}
use Rattle.machine.specs.ShapeKept.{kept_exactly}
use Rattle.follow.specs.Counters.{added}
use Rattle.follow.specs.PlanSeats.{seats, counters, between}
use Rattle.follow.specs.StandsFor.{Follows, next_node_is}
use Rattle.follow.specs.LookExact.{end_next}
use Rattle.follow.specs.Meaning.{tokens_after, Stands}

module _ (pl : Plan) (sound : Sound pl) (st : State) (s : List ℕ) (f : Follows pl sound st s) where
  -- the firings of the node at seat j of process p
  fired_at : (p j : ℕ) → p < pl.processes → j < at pl.lengths p
      → firings (node_at pl p j) s ≡ f.stands.rounds p + before j (at st.positions p)
  unfolding seats seats_of
  fired_at p j h l =
      let S = seats pl sound in
      let home = S.home_node p h j l in
      omega (arith, f.stands.standing.fired (S.node p j) (S.node_lt p h j l), S.seat_node p h j l, ap f.stands.rounds home, ap (at st.positions) home)

  -- each counter is its increments times the firings, modulo N
  counted : (c : ℕ) → c < pl.counters
      → at st.counters c ≡ sum (λ v. share pl.counter pl.increment c v * firings v s) pl.nodes % pl.modulus
  unfolding counters added graph_of graph_of_tables
  counted c h = f.stands.counted c h

  -- an edge that an open process no longer has to see holds a token
  seen : (p e : ℕ) → p < pl.processes → Synchronising pl e → at pl.destination e ≡ next_node pl st p → at st.opened p ≡ 1
      → mark st p e ≡ 0 → 0 < tokens_after pl s e
  unfolding graph_of graph_of_tables
  seen p e h d q o z =
      let home : (seats pl sound).home (at pl.destination e) ≡ p = ap (seats pl sound).home q ∙ (next_node_is pl sound st f.kept p h).home_is in
      f.stands.seen e d.known (between pl sound e d) (end_next pl sound st s f p e h q) (omega (arith, ap (at st.opened) home)) (ap (λ r. mark st r e) home ∙ z)

  pub follows_stands : Stands pl st s
  follows_stands =
      record {
        in_shape = ((kept_exactly pl sound.shape st).0 f.kept).0;
        legal = f.stands.legal;
        rounds = f.stands.rounds;
        fired = λ v p j x. subst (λ u. firings u s ≡ f.stands.rounds p + before j (at st.positions p)) x.here (fired_at p j x.process_lt x.seat_lt);
        counted = counted;
        seen = seen;
      }
