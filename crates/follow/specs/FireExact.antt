-- What a fire call answers: it fires exactly where the process is open with no mark left, and then its next node may fire.
-- Assumes nothing.
use Rattle.std.specs.Prelude.{◌≡◌, List, ◌↔◌, ℕ, ◌<◌}
use Rattle.std.proofs.Math.Path.{sym}
use Rattle.std.proofs.Common.{◌∙◌, subst, arith}
use Rattle.loops.specs.Choice.{at}
use Rattle.net.specs.Graph.{Fireable}
use Rattle.net.specs.Tables.{graph_of_tables}
use Rattle.net.proofs.ProcessEdges.{chord_holds}
use Rattle.plan.specs.declared.Plan.{Plan}
use Rattle.plan.specs.Value.{graph_of, InProcess}
use Rattle.judge.specs.Sound.{Sound}
use Rattle.state.specs.declared.State.{State}
use Rattle.machine.specs.Answers.{Fired}
use Rattle.machine.specs.States.{next_node, Sized, StateInShape}
use Rattle.machine.specs.Calls.{marks_left}
use Rattle.machine.specs.Runs.{Call, turn}
use Rattle.machine.specs.Exactly as exactly
use Rattle.machine.specs.Exactly.{fire_means}
use Rattle.machine.specs.ShapeKept.{kept_exactly}
use Rattle.follow.specs.PlanSeats.{tables, shaped, every_cycle_holds, seats, sits_home}
use Rattle.follow.specs.Meaning.{tokens_after, FireMeans}
use Rattle.follow.specs.StandsFor.{Follows}
use Rattle.follow.specs.FollowsCalls.{fire_fireable}
use Rattle.follow.specs.LookExact.{end_next}

module _ (pl : Plan) (sound : Sound pl) (st : State) (s : List ℕ) (f : Follows pl sound st s) where
  in_shape : StateInShape pl st × Sized st
  in_shape = (kept_exactly pl sound.shape st).0 f.kept

  -- what an answer fired says
  pub fire_fires : (c : Call) → c.code ≡ 2 → (v : ℕ) → (turn pl st c).reply ≡ Fired v → FireMeans pl st (tokens_after pl s) c.process v
  fire_fires c z v q =
      let m = fire_means pl sound.shape st in_shape.0 in_shape.1 c z v q in
      record {
        process_lt = m.0;
        is_open = m.1;
        none_left = m.2;
        node_is = m.3;
        fireable = subst (Fireable (graph_of pl) (tokens_after pl s)) (sym m.3) (fire_fireable pl sound st s f c.process m.0 (λ y. omega (arith, m.1)) m.2);
      }

  -- so it fires exactly there
  pub fire_exactly : (c : Call) → c.code ≡ 2
      → ((v : ℕ) × ((turn pl st c).reply ≡ Fired v))
      ↔ ((c.process < pl.processes) × (at st.opened c.process ≡ 1) × (marks_left st c.process ≡ 0))
  fire_exactly c z = exactly.fire_exactly pl sound.shape st in_shape.0 in_shape.1 c z

  -- an edge inside a process holds a token where its end is next
  pub chord_token : (e p : ℕ) → e < pl.edges → InProcess pl (at pl.source e) p → InProcess pl (at pl.destination e) p
      → at pl.destination e ≡ next_node pl st p → 0 < tokens_after pl s e
  unfolding graph_of graph_of_tables
  chord_token e p h a b q =
      chord_holds (graph_of pl) (seats pl sound) f.stands.rounds (at st.positions) s f.stands.legal f.stands.standing (shaped pl sound)
      (every_cycle_holds pl sound) e h (sits_home pl sound _ ((tables pl sound).source_lt e h) p a ∙ sym (sits_home pl sound _ ((tables pl sound).destination_lt e h) p b))
      (end_next pl sound st s f p e b.1.process_lt q)
