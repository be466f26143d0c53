use Rattle.std.proofs.Common.{rules, arith}
use Rattle.lines.specs.Lines.{refused_line}
use Rattle.numerals.specs.Texts.{puts_then}
use Rattle.lines.proofs.put_refused_line.Goals as goal

pub returns : goal.returns
unfolding refused_line
returns c = (
  search (rules, (puts_then (puts_then c.put_word.ensures c.put_number.ensures.0) c.put_number-2.ensures.0).text),
  omega (arith, c.put_word.ensures.text.next_is),
)
