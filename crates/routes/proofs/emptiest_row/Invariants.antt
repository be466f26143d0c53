use Rattle.routes.specs.Rows.{total, emptiest_row}
use Rattle.routes.specs.Settling.{Settling}
use Rattle.routes.proofs.emptiest_row.Given as goal

abbrev pub invariant-loop : goal.invariant-loop
invariant-loop l = Settling l.plan.source l.plan.destination l.plan.tokens l.plan.edges (emptiest_row l.plan.source l.plan.destination l.plan.tokens l.plan.edges l.from) l.row.0

abbrev pub decreases-loop : goal.decreases-loop
decreases-loop l = total l.row.0
