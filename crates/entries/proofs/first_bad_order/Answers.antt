use Rattle.std.proofs.Common.{arith}
use Rattle.entries.specs.Seen.{seeing_begin, seeing_more}
use Rattle.entries.proofs.first_bad_order.Goals as goal

pub loop-i-init : goal.loop-i-init
loop-i-init c = seeing_begin _ _

pub loop-i-preserved : goal.loop-i-preserved
loop-i-preserved c = seeing_more c.loop-i.invariant (omega arith) (omega arith) c.from-v.ensures (omega arith) c.if-seen-v.false
