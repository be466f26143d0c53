use Rattle.std.proofs.Common.{arith, ap}
use Rattle.lines.specs.Lines.{refusal_text}
use Rattle.lines.specs.Told.{answer_of}
use Rattle.numerals.specs.Writing.{put_none, put_like}
use Rattle.lines.proofs.put_refusal.Goals as goal

pub returns-in-Ok : goal.returns-in-Ok
unfolding refusal_text
returns-in-Ok c = (put_like refusal_text (ap answer_of c.in-Ok.is) (put_none _ _), omega arith)

pub returns-in-Err : goal.returns-in-Err
unfolding refusal_text
returns-in-Err c = (put_like refusal_text (ap answer_of c.in-Err.is) c.put_refused_line.ensures.0, c.put_refused_line.ensures.1)
