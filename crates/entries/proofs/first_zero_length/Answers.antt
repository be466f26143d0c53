use Rattle.std.proofs.Common.{rules}
use borrow.Author.Tests.{tests}
use Rattle.loops.specs.Chains.{find_chain}
use Rattle.plan.specs.Tests.{zero_length}
use Rattle.entries.proofs.first_zero_length.Goals as goal

pub returns : goal.returns
unfolding zero_length
returns c = find_chain _ _ c.find.ensures.ran (search rules) (λ x b q k. search (rules, tests))
