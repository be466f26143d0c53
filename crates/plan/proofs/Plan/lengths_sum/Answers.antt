use Rattle.std.proofs.Common.{rules, ◌^◌}
use borrow.Author.Tests.{tests}
use Rattle.loops.specs.Choice.{at}
use Rattle.loops.specs.Chains.{sum_chain, sum_fits_most}
use Rattle.plan.specs.Value.{base}
use Rattle.plan.proofs.Plan.lengths_sum.Goals as goal

pub sum-requires-clause-fits : goal.sum-requires-clause-fits
sum-requires-clause-fits c = sum_fits_most c.map.result (2 ^ 64) 65535 (at c.args.self.now.lengths) c.map.ensures.source c.map.ensures.closure (λ x r q k. search (rules, tests)) (λ x r q k. search (rules, tests)) (search rules)

pub returns : goal.returns
unfolding base
returns c = sum_chain c.map.result _ c.sum.ensures.ran c.map.ensures.source c.map.ensures.closure (λ x r q k. search (rules, tests))
