use Rattle.std.proofs.Common.{rules}
use Rattle.numerals.specs.Decimal.{number_then}
use Rattle.numerals.specs.Writing.{put_then}
use Rattle.numerals.proofs.text.Text.put_number.Goals as goal

pub returns : goal.returns
unfolding number_then
returns c = search (rules, put_then)
