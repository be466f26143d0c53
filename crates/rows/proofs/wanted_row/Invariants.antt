use Rattle.loops.specs.Table.{Fill}
use Rattle.rows.specs.Lists.{wanted}
use Rattle.rows.proofs.wanted_row.Given as goal

abbrev pub invariant-loop-e : goal.invariant-loop-e
invariant-loop-e l = Fill (wanted l.plan.destination l.crossing l.node) 512 l.plan.edges l.e l.row
