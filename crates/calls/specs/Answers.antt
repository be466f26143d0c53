-- What the calls of any plan value and any state answer, in 01's words and numbers. Definitions only.
-- Assumes nothing.
use Rattle.machine.specs.Answers.{Turned, Began, replied}
use Rattle.calls.specs.declared.Turned as code
use Rattle.calls.specs.declared.Began as begun

-- what a function answers a call, beside the state
abbrev pub turned_of : code.Turned → Turned
turned_of t = record { reply = replied t.reply; state = t.state }

-- what a function answers a beginning, beside the state
abbrev pub began_of : begun.Began → Began
began_of b = record { number = b.number; state = b.state }
