-- What is put of a plan's answer and of a call's, in 01's words: a refusal by its number, whichever it is. Definitions only.
-- Assumes nothing.
use Rattle.std.specs.Prelude.{ℕ, Result, Ok, Err}
use Rattle.judge.specs.declared.Acceptance.{Acceptance}
use Rattle.judge.specs.Answer as plans
use Rattle.machine.specs.declared.Done.{Done}
use Rattle.machine.specs.Answers as calls
use Rattle.lines.specs.declared.Numbered.{Numbered}

abbrev pub answer_of : Result Acceptance Numbered → plans.Answer
answer_of (Ok a) = plans.Accepted a.q a.modulus a.least
answer_of (Err r) = plans.Refused r.number r.place

abbrev pub reply_of : Result Done ℕ → calls.Reply
reply_of (Ok done) = calls.replied (Ok done)
reply_of (Err number) = calls.Refused number
