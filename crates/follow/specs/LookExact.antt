-- An edge that is looked at ends at its process's next node.
-- Assumes nothing.
use Rattle.std.specs.Prelude.{◌≡◌, List, ℕ, ◌<◌}
use Rattle.std.proofs.Common.{sym}
use Rattle.std.proofs.Math.Path.{subst}
use Rattle.loops.specs.Choice.{at}
use Rattle.net.specs.Processes.{Next}
use Rattle.net.specs.Tables.{graph_of_tables}
use Rattle.plan.specs.declared.Plan.{Plan}
use Rattle.plan.specs.Value.{graph_of}
use Rattle.judge.specs.Sound.{Sound}
use Rattle.state.specs.declared.State.{State}
use Rattle.machine.specs.States.{next_node}
use Rattle.follow.specs.PlanSeats.{seats}
use Rattle.follow.specs.StandsFor.{Follows, next_node_is}

module _ (pl : Plan) (sound : Sound pl) (st : State) (s : List ℕ) (f : Follows pl sound st s) where
  -- an edge to a process's next node has an end that is next
  pub end_next : (p e : ℕ) → p < pl.processes → at pl.destination e ≡ next_node pl st p
      → Next (graph_of pl) (seats pl sound) (at st.positions) ((graph_of pl).destination e)
  unfolding graph_of graph_of_tables
  end_next p e h q = subst (Next (graph_of pl) (seats pl sound) (at st.positions)) (sym q) (next_node_is pl sound st f.kept p h).next
