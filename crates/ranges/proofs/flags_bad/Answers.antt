use Rattle.std.proofs.Common.{rules}
use Rattle.ranges.proofs.flags_bad.Goals as goal

pub returns : goal.returns
returns c = c.entries_bad.ensures _ _ (λ k r h p. search rules) (λ k r h p. search rules)
