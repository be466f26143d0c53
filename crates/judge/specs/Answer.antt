-- What is answered of a plan, in 01's words: Q, N and the least modulus, or a number and a place. Definitions only.
-- Assumes nothing.
use Rattle.std.specs.Prelude.{ℕ, Result, Ok, Err}
use Rattle.plan.specs.declared.Refusal.{Refusal}
use Rattle.plan.specs.Refusals.{number_of}
use Rattle.judge.specs.declared.Acceptance.{Acceptance}

pub data Answer : Type 0 where
  Accepted : (q modulus least : ℕ) → Answer
  Refused : (number place : ℕ) → Answer

-- what a function answers, in 01's numbers
abbrev pub answered : Result Acceptance Refusal → Answer
answered (Ok a) = Accepted a.q a.modulus a.least
answered (Err refusal) = Refused (number_of refusal.test) refusal.place
