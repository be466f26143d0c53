use Rattle.routes.specs.Relaxing.{Relaxing}
use Rattle.routes.proofs.Row.relax_sweep.Given as goal

abbrev pub invariant-loop-e : goal.invariant-loop-e
invariant-loop-e l = Relaxing l.plan.source l.plan.destination l.plan.tokens l.plan.edges l.initial.self.entries l.e l.self.entries l.drop
