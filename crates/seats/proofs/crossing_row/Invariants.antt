use Rattle.loops.specs.Table.{Fill}
use Rattle.seats.specs.Crossing.{crosses}
use Rattle.seats.proofs.crossing_row.Given as goal

abbrev pub invariant-loop-e : goal.invariant-loop-e
invariant-loop-e l = Fill (crosses l.homes l.plan.source l.plan.destination) 512 l.plan.edges l.e l.row
