use Rattle.std.proofs.Common.{rules, arith}
use Rattle.cycles.specs.Sums.{enterings, enter_kept}
use Rattle.cycles.proofs.LoopSums.enter_row.Goals as goal
use Rattle.cycles.proofs.LoopSums.enter_row.Goals.{then-from-v, else-from-v}

pub loop-e-init : goal.loop-e-init
loop-e-init c = search (rules, enterings)

pub loop-e-preserved : goal.loop-e-preserved
loop-e-preserved c = elim c.if-from-v.branch [ then-from-v w ↦ search (rules, enterings) | else-from-v w ↦ rw w.self-is (enter_kept c.loop-e.invariant (omega arith) (λ q. w.if-from-v.false (omega arith))) ]
