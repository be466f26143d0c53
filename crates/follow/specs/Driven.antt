-- In every state that stands for a list of firings some process can be driven.
-- Assumes nothing.
use Rattle.std.specs.Prelude.{◌≡◌, List, [], ◌∷◌, ◌++◌, ℕ, ◌<◌}
use Rattle.std.proofs.Common.{sym, ◌∙◌}
use Rattle.std.proofs.Math.Path.{ap, subst}
use Rattle.loops.specs.Choice.{at}
use Rattle.net.specs.Graph.{Fireable}
use Rattle.net.proofs.Live.{some_fireable}
use Rattle.net.specs.Seating.{seats_of}
use Rattle.net.specs.ProcessEdges.{next_only}
use Rattle.plan.specs.declared.Plan.{Plan}
use Rattle.plan.specs.Value.{graph_of, node_at}
use Rattle.judge.specs.Sound.{Sound}
use Rattle.state.specs.declared.State.{State}
use Rattle.machine.specs.Answers.{Reply}
use Rattle.machine.specs.States.{next_node}
use Rattle.follow.specs.PlanSeats.{some_node, shaped, every_cycle_holds, seats}
use Rattle.follow.specs.Meaning.{tokens_after}
use Rattle.follow.specs.StandsFor.{Follows}
use Rattle.follow.specs.DriveCalls.{AllGo}

-- of two lists of answers
pub AllGo_append : (rs ts : List Reply) → AllGo rs → AllGo ts → AllGo (rs ++ ts)
unfolding AllGo
AllGo_append [] ts a b = b
AllGo_append (r ∷ rs) ts a b = (a.0, AllGo_append rs ts a.1 b)

module _ (pl : Plan) (sound : Sound pl) (st : State) (s : List ℕ) (f : Follows pl sound st s) where
  -- a node that may fire is the next one of its process
  pub fireable_next : (v : ℕ) → v < (graph_of pl).nodes → Fireable (graph_of pl) (tokens_after pl s) v
      → (p : ℕ) × (p < pl.processes) × (next_node pl st p ≡ v)
  unfolding next_node node_at seats seats_of
  fireable_next v h may =
      let S = seats pl sound in
      let next = next_only (graph_of pl) S f.stands.rounds (at st.positions) s f.stands.legal f.stands.standing v h may in
      (S.home v, S.home_lt v h, ap (node_at pl (S.home v)) (sym next) ∙ S.node_of v h)

  -- some process has a next node that may fire
  pub some_process : (p : ℕ) × (p < pl.processes) × Fireable (graph_of pl) (tokens_after pl s) (next_node pl st p)
  some_process =
      let t = some_fireable (graph_of pl) (graph_of pl).tokens (shaped pl sound) (every_cycle_holds pl sound) s f.stands.legal (some_node pl sound) in
      let r = fireable_next t.0 t.1 t.2 in
      (r.0, r.1, subst (Fireable (graph_of pl) (tokens_after pl s)) (sym r.2) t.2)
