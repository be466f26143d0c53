-- Plan P: the emptiest route back of edge 1-2 goes over the process edges 2-3 and 0-1 and the edge 3-0. By computation.
-- Assumes nothing.
use Rattle.std.specs.Prelude.{refl, [], ◌∷◌, ℕ, ◌≤◌}
use Rattle.std.proofs.Common.{arith}
use Rattle.loops.specs.Choice.{if}
use Rattle.loops.specs.First.{first, first_of}
use Rattle.loops.specs.Sum.{sum}
use Rattle.net.specs.Graph.{Route, tokens_on}
use Rattle.net.specs.Tables.{graph_of_tables}
use Rattle.plan.specs.Value.{graph_of, base}
use Rattle.plan.specs.Tests.{stands_at, order_position, ends_past, process_at, home_of, home, synchronises}
use Rattle.judge.specs.Conditions.{RouteBack}
use Rattle.judge.specs.Example.{P}

-- "chords and process edges included": the route back over edges 3, 4 and 0 counts, and holds 3 tokens
pub back_over_all_edges : (d : ℕ) → RouteBack P 2 d → d ≤ 3
unfolding P RouteBack graph_of graph_of_tables Route tokens_on if first first_of sum base stands_at order_position ends_past process_at home_of home synchronises
back_over_all_edges d back = omega (arith, back.least (3 ∷ 4 ∷ 0 ∷ []) (omega arith, refl, (omega arith, refl, (omega arith, refl, refl))))
