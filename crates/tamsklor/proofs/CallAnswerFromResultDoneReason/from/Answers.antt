use Rattle.std.proofs.Common.{Ok}
use Rattle.tamsklor.specs.Numbers.{numbers_of_reply}
use Rattle.machine.specs.Answers.{replied}
use mathlib.Core.Path.{sym, ap, ◌∙◌}
use Rattle.tamsklor.proofs.CallAnswerFromResultDoneReason.from.Goals as goal

pub returns-in-Opened : goal.returns-in-Opened
unfolding numbers_of_reply
returns-in-Opened c = sym (ap (λ r. numbers_of_reply (replied r)) (c.in-Ok.is ∙ ap Ok c.in-Opened.is))

pub returns-in-Found : goal.returns-in-Found
unfolding numbers_of_reply
returns-in-Found c = sym (ap (λ r. numbers_of_reply (replied r)) (c.in-Ok.is ∙ ap Ok c.in-Found.is))

pub returns-in-Wait : goal.returns-in-Wait
unfolding numbers_of_reply
returns-in-Wait c = sym (ap (λ r. numbers_of_reply (replied r)) (c.in-Ok.is ∙ ap Ok c.in-Wait.is))

pub returns-in-Fired : goal.returns-in-Fired
unfolding numbers_of_reply
returns-in-Fired c = sym (ap (λ r. numbers_of_reply (replied r)) (c.in-Ok.is ∙ ap Ok c.in-Fired.is))

pub returns-in-Err : goal.returns-in-Err
unfolding numbers_of_reply
returns-in-Err c = ap (λ n. record { kind = 0; value = n }) c.from.ensures ∙ sym (ap (λ r. numbers_of_reply (replied r)) c.in-Err.is)
