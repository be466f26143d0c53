-- The whole text that `planrun` prints for an input (01, "The program"), to the last byte. Definitions only.
-- Assumes nothing.
use Rattle.std.specs.Prelude.{List, [], ◌∷◌, ◌++◌, ℕ, suc, ◌+◌, ◌*◌, ltb, length, take, drop, Result, Ok, Err}
use Rattle.loops.specs.Choice.{if}
use Rattle.plan.specs.declared.Plan.{Plan}
use Rattle.judge.specs.Answer.{Answer}
use Rattle.judge.specs.Answer as answers
use Rattle.reader.specs.Answer.{ReadPlan}
use Rattle.numerals.specs.LittleEndian.{four_bytes}
use Rattle.reader.specs.Tests.{read_of}
use Rattle.state.specs.declared.State.{State}
use Rattle.machine.specs.Answers.{Reply}
use Rattle.machine.specs.States.{fresh}
use Rattle.machine.specs.Runs.{Call, replies}
use Rattle.transcript.specs.declared.TooShort as code
use Rattle.lines.specs.Words.{cut_line, too_long_line}
use Rattle.lines.specs.Lines.{plan_line, refused_line, line}

-- the lines of replies, the first with this index
unfoldable pub lines : ℕ → List Reply → List ℕ
lines index [] = []
lines index (reply ∷ others) = line index reply ++ lines (suc index) others

-- "Then calls of four bytes: code (0 open, 1 look, 2 fire), process, edge (two bytes, …)"
unfoldable pub calls_in : List ℕ → List Call
calls_in [] = []
calls_in (a ∷ []) = []
calls_in (a ∷ b ∷ []) = []
calls_in (a ∷ b ∷ c ∷ []) = []
calls_in (a ∷ b ∷ c ∷ d ∷ others) = record { code = a; process = b; edge = c + 256 * d } ∷ calls_in others

-- "One to three bytes left over print `cut`."
unfoldable pub left_over : List ℕ → List ℕ
left_over [] = []
left_over (a ∷ []) = cut_line
left_over (a ∷ b ∷ []) = cut_line
left_over (a ∷ b ∷ c ∷ []) = cut_line
left_over (a ∷ b ∷ c ∷ d ∷ others) = left_over others

-- what the calls of some bytes print: the machine's run from a state, put into words, the first call with this index
unfoldable pub calls_text : Plan → State → ℕ → List ℕ → List ℕ
calls_text pl st index bytes = lines index (replies pl st (calls_in bytes)) ++ left_over bytes

-- ---- the whole
-- "The image is the first T bytes, T being the total field; the whole input where T is missing, below 36 or beyond the input."
unfoldable pub image_length : List ℕ → ℕ
image_length input =
    if (ltb (length input) 36) (length input)
    (if (ltb (four_bytes input 32) 36) (length input)
    (if (ltb (length input) (four_bytes input 32)) (length input) (four_bytes input 32)))

-- the text by the reader's answer, the plan beside it and the bytes behind the image; a refused plan prints its line "and then nothing more"
unfoldable pub text_by : Answer → Plan → List ℕ → List ℕ
text_by (answers.Accepted q modulus least) pl bytes = plan_line q modulus least ++ calls_text pl fresh 0 bytes
text_by (answers.Refused number place) pl bytes = refused_line number place

unfoldable pub text_read : ReadPlan → List ℕ → List ℕ
text_read reading bytes = text_by reading.answer reading.plan bytes

unfoldable pub run_text : List ℕ → List ℕ
run_text input = text_read (read_of (take (image_length input) input)) (drop (image_length input) input)

-- "`planrun` reads at most 65,536 bytes of standard input; with more it prints `too long` only."
unfoldable pub text_of : List ℕ → List ℕ
text_of input = if (ltb 65536 (length input)) too_long_line (run_text input)

-- ---- the answer
-- the length of the text that was written, or the length that the buffer is too short for
pub data Printed : Type 0 where
  Whole : (length : ℕ) → Printed
  TooShort : (needed : ℕ) → Printed

-- what the function answers, in those words
abbrev pub printed_as : Result ℕ code.TooShort → Printed
printed_as (Ok length) = Whole length
printed_as (Err short) = TooShort short.needed

-- the text's length, where the buffer has room for it
unfoldable pub printed : List ℕ → List ℕ → Printed
printed input out = if (ltb (length out) (length (text_of input))) (TooShort (length (text_of input))) (Whole (length (text_of input)))

-- the buffer afterwards: the text, and past it what stood there; without room nothing is written
unfoldable pub out_after : List ℕ → List ℕ → List ℕ
out_after input out = if (ltb (length out) (length (text_of input))) out (text_of input ++ drop (length (text_of input)) out)
