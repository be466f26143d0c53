use Rattle.cycles.specs.Sums.{Summed}
use Rattle.cycles.proofs.loop_sums.Given as goal

abbrev pub invariant-loop-v : goal.invariant-loop-v
invariant-loop-v l = Summed l.plan.source l.plan.destination l.plan.tokens l.plan.edges l.plan.nodes l.v l.sums.sums
