-- the same numbers with the plan that was read beside them
use Rattle.tamsklor.specs.Numbers.{numbers_of_read, beside_plan}
use mathlib.Core.Path.{ap, ◌∙◌}
use Rattle.tamsklor.proofs.tamsklor_plan_read.Goals as goal

pub returns : goal.returns
unfolding beside_plan numbers_of_read
returns c = ap (λ v. beside_plan v c.read-reading.result.plan) c.from-numbers.ensures ∙ ap numbers_of_read c.read-reading.ensures
