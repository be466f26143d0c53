use Rattle.std.proofs.Common.{rules}
use Rattle.loops.specs.Chains.{any_chain}
use Rattle.cycles.specs.Lent.{on_free_cycle_in}
use Rattle.cycles.proofs.on_free_cycle_at.Goals as goal

pub returns : goal.returns
unfolding on_free_cycle_in
returns c = any_chain _ c.any.ensures.ran (search rules) (λ x b q k. search rules)
