use Rattle.std.proofs.Common.{arith}
use Rattle.numerals.specs.Texts.{puts_then}
use Rattle.lines.proofs.put_said.Goals as goal

pub returns : goal.returns
returns c = (puts_then c.put_word.ensures c.put_number.ensures.0, omega (arith, c.put_word.ensures.text.next_is))
