use Rattle.std.proofs.Common.{rules}
use Rattle.numerals.specs.Writing.{put_none, put_next, put_over}
use Rattle.numerals.proofs.text.put_word_at.Goals as goal

pub loop-byte-preserved : goal.loop-byte-preserved
loop-byte-preserved c = search (rules, put_none, put_next)

pub returns : goal.returns
returns c = search (rules, put_over)
