use Rattle.loops.specs.Table.{Fill}
use Rattle.rows.specs.Lists.{next_in}
use Rattle.rows.proofs.next_nodes.Given as goal

abbrev pub invariant-loop-p : goal.invariant-loop-p
invariant-loop-p l = Fill (next_in l.plan.order l.plan.lengths l.state.positions) 64 l.plan.processes l.p l.nexts
