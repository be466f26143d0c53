use Rattle.std.proofs.Common.{rules, ℕ, List, ◌≡◌, ltb, arith, ◌^◌, ◌+◌, ◌*◌, ◌≤◌}
use borrow.Author.Tests.{tests}
use Rattle.loops.specs.Chains.{sum_chain, sum_fits_most}
use Rattle.loops.specs.Choice.{at, one_if}
use Rattle.loops.specs.Sum.{sum_le}
use Rattle.rows.specs.Lists.{row_above}
use Rattle.rows.proofs.One.{one_is, one_most}
use Rattle.rows.proofs.row_above.Goals as goal

-- as many as a row has edges at most
bounded : (allowed marks : List ℕ) (p : ℕ) {r : ℕ} → r ≡ row_above (at allowed) marks p → (r ≡ row_above (at allowed) marks p) × (r ≤ 512)
unfolding row_above
bounded allowed marks p e =
    (e, omega (arith, e, sum_le (λ k. one_if (ltb (at allowed k) (at marks (512 * p + k)))) 1 (λ k. one_most (ltb (at allowed k) (at marks (512 * p + k)))) 512))

pub sum-requires-clause-fits : goal.sum-requires-clause-fits
sum-requires-clause-fits c =
    sum_fits_most c.map.result (2 ^ 16) 1 (λ e. one_if (ltb (at c.args.allowed.now e) (at c.args.state.now.marks (512 * c.args.p + e))))
    c.map.ensures.source c.map.ensures.closure (λ x r q k. search (rules, tests, one_is)) (λ x r q k. search (rules, tests)) (search rules)

pub returns : goal.returns
unfolding row_above
returns c =
    bounded c.args.allowed.now c.args.state.now.marks c.args.p (sum_chain c.map.result _ c.sum.ensures.ran (search rules) c.map.ensures.closure (λ x r q k. search (rules, tests, one_is)))
