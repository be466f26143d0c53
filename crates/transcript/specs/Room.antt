-- A buffer of 409,642 bytes has room for every text: `transcript` then answers the text's length, and nothing of it is lost.
-- Assumes nothing.
use Rattle.std.specs.Prelude.{◌≡◌, List, ◌++◌, false, ℕ, ◌≤◌, ltb, length, drop}
use Rattle.std.proofs.Common.{◌∙◌, arith, le-ltb}
use Rattle.loops.specs.Choice.{if_false}
use Rattle.transcript.specs.Text.{Printed}
use Rattle.transcript.specs.Text.{Whole, TooShort}
use Rattle.transcript.specs.Text.{text_of, printed, out_after}
use Rattle.transcript.specs.Printing.{Answers}

module _ (input out after : List ℕ) (answer : Printed) (answers : Answers input out after answer) (room : 409642 ≤ length out) where
  roomy : ltb (length out) (length (text_of input)) ≡ false
  roomy = le-ltb (length out) (length (text_of input)) (omega (arith, answers.bound))

  -- the whole text is written
  pub always_whole : answer ≡ Whole (length (text_of input))
  unfolding printed
  always_whole = answers.answer_is ∙ if_false (ltb (length out) (length (text_of input))) _ _ roomy

  pub text_written : after ≡ text_of input ++ drop (length (text_of input)) out
  unfolding out_after
  text_written = answers.after_is ∙ if_false (ltb (length out) (length (text_of input))) _ _ roomy

  -- so the buffer is never too short
  pub never_short : (needed : ℕ) → answer ≡ TooShort needed → ⊥
  never_short needed e = let z : ◌≡◌ {A = ℕ} 0 1 = cc always_whole in omega arith

  -- and the length that is answered is the text's
  pub whole_length : (n : ℕ) → answer ≡ Whole n → n ≡ length (text_of input)
  whole_length n e = cc always_whole

  pub whole_fits : (n : ℕ) → answer ≡ Whole n → n ≤ 409642
  whole_fits n e = omega (arith, whole_length n e, answers.bound)
