use Rattle.std.proofs.Common.{rules, ◌≡◌, ◌∙◌}
use borrow.Author.Tests.{tests}
use Rattle.loops.specs.Values.{lowest}
use Rattle.loops.specs.Chains.{find_chain, lowest_or}
use Rattle.plan.specs.Tests.{stands_at, order_position}
use Rattle.seats.proofs.order_position_of.Goals as goal

pub returns : goal.returns
unfolding order_position
returns c =
    let found : c.find.result ≡ lowest (stands_at c.args.plan.now.order c.args.v) c.args.plan.now.nodes = find_chain _ _ c.find.ensures.ran (search rules) (λ x b q k. search (rules, tests)) in
    c.unwrap_or.ensures ∙ rw c.from-nodes.ensures (lowest_or _ _ _ found)
