use Rattle.std.proofs.Common.{rules, ◌^◌, ◌+◌}
use borrow.Author.Tests.{tests}
use Rattle.loops.specs.Chains.{sum_chain, sum_fits_most}
use Rattle.loops.specs.Choice.{at}
use Rattle.plan.specs.Value.{share}
use Rattle.formula.specs.Lists.{shares_in}
use Rattle.formula.proofs.shares.Goals as goal

pub sum-requires-clause-fits : goal.sum-requires-clause-fits
sum-requires-clause-fits c =
    sum_fits_most c.map.result (2 ^ 32) 65535
    (λ j. share c.args.plan.now.counter c.args.plan.now.increment c.args.c (at c.args.plan.now.order (c.args.start + j)))
    c.map.ensures.source c.map.ensures.closure (λ x r q k. search (rules, tests)) (λ x r q k. search (rules, tests)) (search rules)

pub returns : goal.returns
unfolding shares_in
returns c = sum_chain c.map.result _ c.sum.ensures.ran (search rules) c.map.ensures.closure (λ x r q k. search (rules, tests))
