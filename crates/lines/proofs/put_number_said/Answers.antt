use Rattle.lines.specs.Lines.{said}
use Rattle.lines.proofs.put_number_said.Goals as goal

pub returns : goal.returns
unfolding said
returns c = c.put_said.ensures
