use Rattle.std.proofs.Common.{rules}
use Rattle.loops.specs.Chains.{any_chain}
use Rattle.rounds.proofs.any_sends.Goals as goal

pub returns : goal.returns
returns c = any_chain _ c.any.ensures.ran (search rules) (λ x b q k. search rules)
