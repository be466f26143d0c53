use Rattle.std.proofs.Common.{rules, max, arith, ap, ◌∙◌}
use Rattle.loops.specs.Fold.{folds, fold_more}
use Rattle.cycles.proofs.LoopSums.most_asked.Goals as goal

pub loop-edge-init : goal.loop-edge-init
loop-edge-init c = search (rules, folds)

pub loop-edge-preserved : goal.loop-edge-preserved
loop-edge-preserved c = (fold_more c.loop-edge.invariant.0 (omega arith) (c.max-most.ensures ∙ ap (max _) c.asks.ensures.0), omega (arith, c.max-most.ensures, c.asks.ensures.1))
