-- The lines of the text that `planrun` prints (01, "The program"), to the last byte. Definitions only.
-- Assumes nothing.
use Rattle.std.specs.Prelude.{List, [], ◌++◌, ℕ}
use Rattle.judge.specs.Answer.{Answer}
use Rattle.judge.specs.Answer as answers
use Rattle.machine.specs.Answers.{Reply}
use Rattle.machine.specs.Answers as replied
use Rattle.numerals.specs.Decimal.{decimal, number_then}
use Rattle.lines.specs.Words.{blank, newline, plan_word, refused_word, opened_word, found_word, wait_word, fired_word, turned_down_word}

-- ---- the first line
-- "First line: `plan` Q N least"
unfoldable pub plan_line : ℕ → ℕ → ℕ → List ℕ
plan_line q modulus least = plan_word ++ number_then q blank ++ number_then modulus blank ++ number_then least newline

-- "or `refused` number place"
unfoldable pub refused_line : ℕ → ℕ → List ℕ
refused_line number place = refused_word ++ number_then number blank ++ number_then place newline

-- the text of a refusal; nothing where the plan is accepted
unfoldable pub refusal_text : Answer → List ℕ
refusal_text (answers.Accepted q modulus least) = []
refusal_text (answers.Refused number place) = refused_line number place

-- ---- a line a call
-- "then `opened`, `found` or `wait` with edges left, or `fired` with the node, or `refused` with the number"
unfoldable pub said : Reply → List ℕ
said (replied.Opened edges) = opened_word ++ number_then edges newline
said (replied.Found left) = found_word ++ number_then left newline
said (replied.Wait left) = wait_word ++ number_then left newline
said (replied.Fired node) = fired_word ++ number_then node newline
said (replied.Refused number) = turned_down_word ++ number_then number newline

-- "Each call prints its index from 0"
unfoldable pub line : ℕ → Reply → List ℕ
line index reply = decimal index ++ said reply
