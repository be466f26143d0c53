use Rattle.std.proofs.Common.{rules}
use borrow.Author.Tests.{tests}
use Rattle.loops.specs.Chains.{find_chain}
use Rattle.entries.proofs.first_bad_node.Goals as goal

pub returns : goal.returns
returns c = find_chain _ _ c.find.ensures.ran (search rules) (λ x b q k. search (rules, tests))
