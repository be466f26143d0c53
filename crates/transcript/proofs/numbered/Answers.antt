use Rattle.std.proofs.Common.{ap, sym, ◌∙◌}
use Rattle.machine.specs.Answers.{replied, Refused}
use Rattle.transcript.proofs.numbered.Goals as goal

pub returns-in-Ok : goal.returns-in-Ok
returns-in-Ok c = sym (ap replied c.in-Ok.is)

pub returns-in-Err : goal.returns-in-Err
returns-in-Err c = ap Refused c.from.ensures ∙ sym (ap replied c.in-Err.is)
