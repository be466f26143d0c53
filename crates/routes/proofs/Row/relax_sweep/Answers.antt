use Rattle.std.proofs.Common.{rules, arith}
use Rattle.routes.specs.Rows.{sweep}
use Rattle.routes.specs.Relaxing.{relaxing_begin, relaxing_fits, relaxing_over}
use Rattle.routes.proofs.Relaxing.{relaxing_more}
use Rattle.routes.proofs.Row.relax_sweep.Goals as goal

pub loop-e-init : goal.loop-e-init
loop-e-init c = search (rules, relaxing_begin)

pub overflow_add-drop : goal.overflow_add-drop
overflow_add-drop c = search (rules, relaxing_fits)

pub loop-e-preserved : goal.loop-e-preserved
loop-e-preserved c =
    relaxing_more c.loop-e.invariant {s = c.from-s.result} c.requires.1 (omega arith) (search rules) (search rules)
    (search rules) (omega arith)

pub returns : goal.returns
unfolding sweep
returns c = search (rules, relaxing_over)
