use Rattle.std.proofs.Common.{◌-◌}
use Rattle.seats.specs.Housed.{Housed}
use Rattle.seats.proofs.homes.Given as goal

abbrev pub invariant-loop-i : goal.invariant-loop-i
invariant-loop-i l = Housed l.plan.order l.plan.lengths l.plan.nodes l.plan.processes l.p l.start l.i l.table

abbrev pub invariant-loop-start : goal.invariant-loop-start
invariant-loop-start l = Housed l.plan.order l.plan.lengths l.plan.nodes l.plan.processes l.p l.start l.i l.table

abbrev pub decreases-loop-start : goal.decreases-loop-start
decreases-loop-start l = l.plan.processes - l.p
