use Rattle.tamsklor.specs.Numbers.{numbers_of_level}
use Rattle.machine.specs.Answers.{level_of}
use mathlib.Core.Path.{sym, ap, ◌∙◌}
use Rattle.tamsklor.proofs.TokenAnswerFromResultU32Reason.from.Goals as goal

pub returns-in-Ok : goal.returns-in-Ok
unfolding numbers_of_level
returns-in-Ok c = sym (ap (λ l. numbers_of_level (level_of l)) c.in-Ok.is)

pub returns-in-Err : goal.returns-in-Err
unfolding numbers_of_level
returns-in-Err c = ap (λ n. record { number = n; count = 0 }) c.from.ensures ∙ sym (ap (λ l. numbers_of_level (level_of l)) c.in-Err.is)
