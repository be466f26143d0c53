use Rattle.std.proofs.Common.{rules}
use Rattle.loops.specs.Sum.{sums}
use Rattle.loops.specs.First.{firsts, first_hit, first_miss}
use Rattle.plan.specs.Tests.{process_at}
use Rattle.plan.specs.Running.{ends_here, ends_before}
use mathlib.Core.Path.{refl}
use Rattle.plan.proofs.Plan.process_of_order_position.Goals as goal

pub loop-p-init : goal.loop-p-init
loop-p-init c = search (rules, sums, firsts)

pub returns-then-i-end : goal.returns-then-i-end
unfolding process_at
returns-then-i-end c = first_hit c.loop-p.invariant.0 (search rules) (ends_here c.args.self.now.lengths c.args.i c.loop-p.invariant.1 c.from-end.ensures c.if-i-end.true) refl

pub loop-p-preserved : goal.loop-p-preserved
loop-p-preserved c = (first_miss c.loop-p.invariant.0 (search rules) (ends_before c.args.self.now.lengths c.args.i c.loop-p.invariant.1 c.from-end.ensures c.if-i-end.false) refl, search (rules, sums), search rules)

pub returns : goal.returns
unfolding process_at
returns c = search (rules, firsts)
