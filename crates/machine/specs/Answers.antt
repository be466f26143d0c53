-- What calls, a token reading and a beginning answer, in 01's words and numbers. Definitions only.
-- Assumes nothing.
use Rattle.std.specs.Prelude.{ℕ, Result, Ok, Err}
use Rattle.state.specs.declared.State.{State}
use Rattle.refusals.specs.declared.Reason.{Reason}
use Rattle.refusals.specs.Reasons.{number_of}
use Rattle.machine.specs.declared.Done as code
use Rattle.machine.specs.declared.Done.TheVariants as done

-- what a call answers
pub data Reply : Type 0 where
  Opened : (edges : ℕ) → Reply
  Found : (left : ℕ) → Reply
  Wait : (left : ℕ) → Reply
  Fired : (node : ℕ) → Reply
  Refused : (number : ℕ) → Reply

-- what a token reading answers
pub data Level : Type 0 where
  Tokens : (count : ℕ) → Level
  Unread : (number : ℕ) → Level

-- a call's answer beside the state that it leaves
pub record Turned : Type 0 where
  pub reply : Reply
  pub state : State

-- the answer to beginning a run: 0 or the refusal's number, beside the state
pub record Began : Type 0 where
  pub number : ℕ
  pub state : State

-- what a function answers a call, in those words
abbrev pub replied : Result code.Done Reason → Reply
replied (Ok (done.Opened edges)) = Opened edges
replied (Ok (done.Found left)) = Found left
replied (Ok (done.Wait left)) = Wait left
replied (Ok (done.Fired node)) = Fired node
replied (Err reason) = Refused (number_of reason)

-- what a function answers a token reading
abbrev pub level_of : Result ℕ Reason → Level
level_of (Ok count) = Tokens count
level_of (Err reason) = Unread (number_of reason)
