use Rattle.std.proofs.Common.{rules}
use Rattle.loops.specs.Chains.{find_chain}
use Rattle.cycles.specs.Free.{none_on_one}
use Rattle.cycles.proofs.first_on_free_cycle.Goals as goal

pub returns : goal.returns
returns c = find_chain _ _ c.find.ensures.ran (search rules) (λ x b q k. search rules)

pub returns-then-not-some_free : goal.returns-then-not-some_free
returns-then-not-some_free c = none_on_one _ _ _ _ (search rules)
