use Rattle.std.proofs.Common.{rules, arith}
use Rattle.seats.specs.Housed.{ended_means, housed_begin, housed_on, housed_more, housed_over}
use Rattle.seats.proofs.homes.Goals as goal

pub loop-i-init : goal.loop-i-init
loop-i-init c = search (rules, housed_begin)

pub bounds-plan-p : goal.bounds-plan-p
bounds-plan-p c = omega (arith, (ended_means _ _ _ _ _ _ c.ends_by.ensures c.loop-start-test.true).0)

pub loop-start-smaller : goal.loop-start-smaller
loop-start-smaller c = omega (arith, (ended_means _ _ _ _ _ _ c.ends_by.ensures c.loop-start-test.true).0)

pub loop-start-preserved : goal.loop-start-preserved
loop-start-preserved c = housed_on c.loop-start.invariant c.ends_by.ensures c.loop-start-test.true (search rules)

pub loop-i-preserved : goal.loop-i-preserved
loop-i-preserved c =
    housed_more c.loop-start.invariant (omega arith) c.requires.0 c.requires.2 c.ends_by.ensures
    c.loop-start-test.false (search rules) (omega arith)

pub returns : goal.returns
returns c = housed_over c.loop-i.invariant (omega arith) c.requires.0 c.requires.2
