use Rattle.std.proofs.Common.{ap}
use Rattle.lines.specs.Lines.{said}
use Rattle.lines.specs.Told.{reply_of}
use Rattle.numerals.specs.Texts.{puts_like}
use Rattle.lines.proofs.put_reply.Goals as goal

pub returns-in-Ok : goal.returns-in-Ok
returns-in-Ok c = (puts_like said (ap reply_of c.in-Ok.is) c.put_done.ensures.0, c.put_done.ensures.1)

pub returns-in-Err : goal.returns-in-Err
returns-in-Err c = (puts_like said (ap reply_of c.in-Err.is) c.put_number_said.ensures.0, c.put_number_said.ensures.1)
