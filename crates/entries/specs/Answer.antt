-- What tests 5 to 8 of a plan value answer, and what comes of it. Definitions only.
-- Assumes nothing.
use Rattle.std.specs.Prelude.{ℕ, Result, Ok, Err}
use Rattle.plan.specs.declared.Plan.{Plan}
use Rattle.plan.specs.declared.Refusal.{Refusal}
use Rattle.plan.specs.Refusals.{number_of}
use Rattle.plan.specs.Tests.{order_then, tables_then}

-- passed, or turned down with a number at a place
pub data Checked : Type 0 where
  Passed : Checked
  Refused : (number place : ℕ) → Checked

-- what a function answers, in 01's numbers
abbrev pub checked : Result (Unit {0}) Refusal → Checked
checked (Ok done) = Passed
checked (Err refusal) = Refused (number_of refusal.test) refusal.place

-- tests 6 to 8
unfoldable pub order_answer : Plan → Checked
order_answer pl = order_then Refused pl Passed

-- tests 5 to 8
unfoldable pub tables_answer : Plan → Checked
tables_answer pl = tables_then Refused pl Passed

-- what comes of it: the refusal, or what comes next
unfoldable pub after_tables : {A : Type 0} → (ℕ → ℕ → A) → A → Checked → A
after_tables refused next Passed = next
after_tables refused next (Refused number place) = refused number place
