use Rattle.std.proofs.Common.{rules}
use Rattle.loops.specs.Chains.{find_chain}
use Rattle.cycles.proofs.LoopSums.first_not_above.Goals as goal

pub returns : goal.returns
returns c = find_chain _ _ c.find.ensures.ran (search rules) (λ x b q k. search rules)
