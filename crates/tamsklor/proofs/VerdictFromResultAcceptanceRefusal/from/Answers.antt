-- the verdict's numbers, case by case: the outcome that was worked out is the answer's
use Rattle.tamsklor.specs.Numbers.{outcome, numbers_of}
use Rattle.judge.specs.Answer.{answered}
use mathlib.Core.Path.{sym, ap, ◌∙◌}
use Rattle.tamsklor.proofs.VerdictFromResultAcceptanceRefusal.from.Goals as goal

pub returns-in_default : goal.returns-in_default
unfolding outcome numbers_of
returns-in_default c =
    ap (λ o. record { number = o.number; place = o.place; least = 0 }) (c.outcome_of-outcome.ensures ∙ ap (λ a. outcome (answered a)) c.in_default.is)
    ∙ sym (ap (λ a. numbers_of (answered a)) c.in_default.is)

pub returns : goal.returns
unfolding outcome numbers_of
returns c =
    ap (λ o. record { number = o.number; place = o.place; least = c.in-Ok.accepted.least }) (c.outcome_of-outcome.ensures ∙ ap (λ a. outcome (answered a)) c.in-Ok.is)
    ∙ sym (ap (λ a. numbers_of (answered a)) c.in-Ok.is)
