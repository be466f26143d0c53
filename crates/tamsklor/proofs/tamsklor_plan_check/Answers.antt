use Rattle.reader.specs.Tests.{read_of}
use Rattle.tamsklor.specs.Numbers.{numbers_of}
use mathlib.Core.Path.{ap, ◌∙◌}
use Rattle.tamsklor.proofs.tamsklor_plan_check.Goals as goal

pub returns : goal.returns
unfolding read_of
returns c = c.from.ensures ∙ ap (λ r. numbers_of r.answer) c.read.ensures
