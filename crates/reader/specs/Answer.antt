-- What the reader answers, in 01's words: the answer of the tests, and beside it the plan. Definitions only.
-- Assumes nothing.
use Rattle.plan.specs.declared.Plan.{Plan}
use Rattle.judge.specs.Answer.{Answer, answered}
use Rattle.reader.specs.declared.ReadPlan as code

pub record ReadPlan : Type 0 where
  pub answer : Answer
  pub plan : Plan

-- what the function answers, in 01's numbers
abbrev pub told : code.ReadPlan → ReadPlan
told r = record { answer = answered r.answer; plan = r.plan }
