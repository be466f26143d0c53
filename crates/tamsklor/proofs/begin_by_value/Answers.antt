use Rattle.tamsklor.specs.Numbers.{numbers_of_begin}
use mathlib.Core.Path.{ap}
use Rattle.tamsklor.proofs.begin_by_value.Goals as goal

pub returns : goal.returns
unfolding numbers_of_begin
returns c = ap numbers_of_begin c.begin-began.ensures
