use Rattle.cycles.specs.Sums.{Entering}
use Rattle.cycles.proofs.LoopSums.enter_row.Given as goal

abbrev pub invariant-loop-e : goal.invariant-loop-e
invariant-loop-e l = Entering l.plan.source l.plan.destination l.plan.tokens l.row.entries l.v l.fn.self.sums l.plan.edges l.e l.self.sums
