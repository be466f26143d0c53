use Rattle.std.proofs.Common.{rules, arith}
use Rattle.cycles.specs.Sums.{summings, summed_more, summed_over}
use Rattle.cycles.specs.Bounds.{zeros_bounded}
use Rattle.cycles.proofs.loop_sums.Goals as goal

pub invariant_of-sums : goal.invariant_of-sums
invariant_of-sums c = record { bounded = zeros_bounded }

pub loop-v-init : goal.loop-v-init
loop-v-init c = search (rules, summings)

pub loop-v-preserved : goal.loop-v-preserved
loop-v-preserved c = summed_more c.loop-v.invariant (omega arith) (omega arith) c.emptiest_row-row.ensures c.enter_row.ensures

pub returns : goal.returns
returns c = summed_over c.loop-v.invariant (omega arith) c.requires.3
