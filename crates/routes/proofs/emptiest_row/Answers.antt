use Rattle.std.proofs.Common.{rules}
use Rattle.routes.specs.Rows.{start}
use Rattle.routes.proofs.Settling.{settlings}
use Rattle.routes.proofs.emptiest_row.Goals as goal

pub invariant_of-row : goal.invariant_of-row
invariant_of-row c = record { low = c.loop.invariant.bound }

pub loop-init : goal.loop-init
unfolding start
loop-init c = search (rules, settlings)

pub loop-preserved : goal.loop-preserved
loop-preserved c = search (rules, settlings)

pub returns : goal.returns
returns c = search (rules, settlings)
