use Rattle.std.proofs.Common.{rules, ◌^◌}
use borrow.Author.Tests.{tests}
use Rattle.loops.specs.Chains.{sum_chain, sum_fits_most}
use Rattle.plan.specs.Value.{share}
use Rattle.plan.proofs.Plan.counter_sum.Goals as goal

pub sum-requires-clause-fits : goal.sum-requires-clause-fits
sum-requires-clause-fits c = sum_fits_most c.map.result (2 ^ 32) 65535 (share c.args.self.now.counter c.args.self.now.increment c.args.c) c.map.ensures.source c.map.ensures.closure (λ x r q k. search (rules, tests)) (λ x r q k. search (rules, tests)) (search rules)

pub returns : goal.returns
returns c = sum_chain c.map.result _ c.sum.ensures.ran (search rules) c.map.ensures.closure (λ x r q k. search (rules, tests))
