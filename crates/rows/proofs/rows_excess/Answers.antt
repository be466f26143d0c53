use Rattle.std.proofs.Common.{rules, ◌^◌}
use borrow.Author.Tests.{tests}
use Rattle.loops.specs.Chains.{sum_chain, sum_fits_most}
use Rattle.loops.specs.Choice.{at}
use Rattle.rows.specs.Lists.{allowed_row, row_above, rows_above}
use Rattle.rows.proofs.rows_excess.Goals as goal

pub sum-requires-clause-fits : goal.sum-requires-clause-fits
sum-requires-clause-fits c =
    sum_fits_most c.map.result (2 ^ 16) 512
    (
    λ p.
    row_above
    (at (allowed_row c.args.state.now.opened c.args.nexts.now c.args.plan.now.destination c.args.crossing.now c.args.processes c.args.plan.now.edges p))
    c.args.state.now.marks p
    )
    c.map.ensures.source c.map.ensures.closure (λ x r q k. search (rules, tests)) (λ x r q k. search (rules, tests)) (search rules)

pub returns : goal.returns
unfolding rows_above
returns c = sum_chain c.map.result _ c.sum.ensures.ran (search rules) c.map.ensures.closure (λ x r q k. search (rules, tests))
