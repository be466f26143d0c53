use Rattle.std.proofs.Common.{ap, Ok}
use Rattle.lines.specs.Lines.{said}
use Rattle.machine.specs.Answers.{replied}
use Rattle.numerals.specs.Texts.{puts_like}
use Rattle.lines.proofs.put_done.Goals as goal

pub returns-in-Opened : goal.returns-in-Opened
unfolding said
returns-in-Opened c = (puts_like said (ap (λ d. replied (Ok d)) c.in-Opened.is) c.put_said.ensures.0, c.put_said.ensures.1)

pub returns-in-Found : goal.returns-in-Found
unfolding said
returns-in-Found c = (puts_like said (ap (λ d. replied (Ok d)) c.in-Found.is) c.put_said-in-Found.ensures.0, c.put_said-in-Found.ensures.1)

pub returns-in-Wait : goal.returns-in-Wait
unfolding said
returns-in-Wait c = (puts_like said (ap (λ d. replied (Ok d)) c.in-Wait.is) c.put_said-in-Wait.ensures.0, c.put_said-in-Wait.ensures.1)

pub returns-in-Fired : goal.returns-in-Fired
unfolding said
returns-in-Fired c = (puts_like said (ap (λ d. replied (Ok d)) c.in-Fired.is) c.put_said-in-Fired.ensures.0, c.put_said-in-Fired.ensures.1)
