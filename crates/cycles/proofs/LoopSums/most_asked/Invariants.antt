use Rattle.std.proofs.Common.{◌≤◌, max}
use Rattle.cycles.specs.Lent.{asks_in}
use Rattle.loops.specs.Fold.{Fold}
use Rattle.cycles.proofs.LoopSums.most_asked.Given as goal

abbrev pub invariant-loop-edge : goal.invariant-loop-edge
invariant-loop-edge l = Fold (λ i m. max m (asks_in l.crossing l.self.sums i)) 1 l.plan.edges l.edge l.most × (l.most ≤ 165536)
