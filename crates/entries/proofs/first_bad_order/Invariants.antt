use Rattle.entries.specs.Seen.{Seeing}
use Rattle.entries.proofs.first_bad_order.Given as goal

abbrev pub invariant-loop-i : goal.invariant-loop-i
invariant-loop-i l = Seeing l.plan.order l.plan.nodes l.i l.seen
