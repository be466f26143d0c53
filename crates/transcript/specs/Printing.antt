-- The text by the reader's answer: an accepted plan's line and its calls, or a refusal. Assumes nothing.
use Rattle.std.specs.Prelude.{◌≡◌, List, [], ◌++◌, ℕ, ◌-◌, ◌≤◌, ◌<◌, ltb, take, drop}
use Rattle.std.proofs.Math.Path.{sym, ap}
use Rattle.std.proofs.Common.{◌∙◌, lt-ltb, le-ltb, length-drop, take_all}
use native.Mathlib.Omega.{arith}
use Rattle.std.proofs.Math.ListN.{length}
use Rattle.loops.specs.Choice.{if_true, if_false}
use Rattle.plan.specs.declared.Plan.{Plan}
use Rattle.plan.specs.Faults.{InShape}
use Rattle.judge.specs.Answer.{Answer}
use Rattle.judge.specs.Answer.{Accepted, Refused}
use Rattle.reader.specs.Answer.{ReadPlan}
use Rattle.numerals.specs.LittleEndian.{four_bytes}
use Rattle.reader.specs.Tests.{read_of}
use Rattle.reader.specs.Theorems.{accepted_sound, all_of_the_plan, answer_is}
use Rattle.reader.specs.Tests.{IsAccepted}
use Rattle.machine.specs.States.{fresh}
use Rattle.transcript.specs.Text.{Printed}
use Rattle.transcript.specs.Text.{Whole, TooShort}
use Rattle.lines.specs.Words.{too_long_line}
use Rattle.transcript.specs.Text.{calls_text, image_length, text_by, text_read, run_text, text_of, printed, out_after}
use Rattle.lines.specs.Lines.{plan_line, refusal_text}
use Rattle.numerals.specs.Writing.{Put, put_then, put_same, put_nowhere, put_front}

-- ---- the image's length, by the total field
module _ (input : List ℕ) where
  pub image_beyond : 36 ≤ length input → 36 ≤ four_bytes input 32 → length input < four_bytes input 32 → length input ≡ image_length input
  unfolding image_length
  image_beyond h l b =
      sym (if_false (ltb (length input) 36) _ _ (le-ltb _ _ h)
      ∙ if_false (ltb (four_bytes input 32) 36) _ _ (le-ltb _ _ l)
      ∙ if_true (ltb (length input) (four_bytes input 32)) _ _ (lt-ltb _ _ b))

  pub image_total : 36 ≤ length input → 36 ≤ four_bytes input 32 → four_bytes input 32 ≤ length input → four_bytes input 32 ≡ image_length input
  unfolding image_length
  image_total h l b =
      sym (if_false (ltb (length input) 36) _ _ (le-ltb _ _ h)
      ∙ if_false (ltb (four_bytes input 32) 36) _ _ (le-ltb _ _ l)
      ∙ if_false (ltb (length input) (four_bytes input 32)) _ _ (le-ltb _ _ b))

-- the bytes behind the image
pub behind : (input : List ℕ) (end : ℕ) → take (length input - end) (drop end input) ≡ drop end input
behind input end = take_all (length input - end) (drop end input) (omega (arith, length-drop end input))

pub behind_few : (input : List ℕ) (end : ℕ) → length input ≤ 65536 → length (take (length input - end) (drop end input)) ≤ 65536
behind_few input end h = omega (arith, ap length (behind input end), length-drop end input)

-- ---- the text
-- an accepted image's plan is in shape
pub accepted_shape : (s : List ℕ) (reading : ReadPlan) (q modulus least : ℕ) → reading ≡ read_of s
    → reading.answer ≡ Accepted q modulus least → InShape reading.plan
accepted_shape s reading q modulus least e a =
    let accepted : IsAccepted s = (q, modulus, least, sym (answer_is s) ∙ ap (λ (r : ReadPlan). r.answer) (sym e) ∙ a) in
    rw (e, all_of_the_plan s accepted) (accepted_sound s accepted).shape

by_answer : (answer : Answer) (pl : Plan) (bytes : List ℕ) (q modulus least : ℕ) → answer ≡ Accepted q modulus least
    → plan_line q modulus least ++ calls_text pl fresh 0 bytes ≡ text_by answer pl bytes
unfolding text_by
by_answer answer pl bytes q modulus least a = rw a

by_refusal : (answer : Answer) (pl : Plan) (bytes : List ℕ) (number place : ℕ) → answer ≡ Refused number place → refusal_text answer ≡ text_by answer pl bytes
unfolding text_by refusal_text
by_refusal answer pl bytes number place a = rw a

module _ (input : List ℕ) (end : ℕ) (reading : ReadPlan) (here : end ≡ image_length input) (read : reading ≡ read_of (take end input)) where
  run_is : text_by reading.answer reading.plan (drop end input) ≡ run_text input
  unfolding run_text text_read
  run_is = rw (read, here)

  -- an accepted plan: its line, and then its calls
  pub run_accepted : {l m k : List ℕ} {i j n : ℕ} (q modulus least : ℕ) → reading.answer ≡ Accepted q modulus least
      → Put l i (plan_line q modulus least) m j → Put m j (calls_text reading.plan fresh 0 (take (length input - end) (drop end input))) k n
      → Put l i (run_text input) k n
  run_accepted q modulus least a p r =
      put_same (by_answer reading.answer reading.plan (drop end input) q modulus least a ∙ run_is)
      (put_then p (put_same (ap (calls_text reading.plan fresh 0) (behind input end)) r))

  -- a refused one: its line alone
  pub run_refused : {l m : List ℕ} {i j : ℕ} (number place : ℕ) → reading.answer ≡ Refused number place
      → Put l i (refusal_text reading.answer) m j → Put l i (run_text input) m j
  run_refused number place a p = put_same (by_refusal reading.answer reading.plan (drop end input) number place a ∙ run_is) p

module _ (input : List ℕ) where
  pub text_long : 65536 < length input → too_long_line ≡ text_of input
  unfolding text_of
  text_long h = sym (if_true (ltb 65536 (length input)) too_long_line (run_text input) (lt-ltb 65536 (length input) h))

  pub text_run : length input ≤ 65536 → run_text input ≡ text_of input
  unfolding text_of
  text_run h = sym (if_false (ltb 65536 (length input)) too_long_line (run_text input) (le-ltb 65536 (length input) h))

  -- what `transcript` does: the text, or without room nothing
  pub record Answers (out after : List ℕ) (answer : Printed) : Type 0 where
    pub answer_is : answer ≡ printed input out
    pub after_is : after ≡ out_after input out
    pub bound : length (text_of input) ≤ 409642

  -- it is counted first, into a buffer without room
  pub answers_short : (out : List ℕ) {m : List ℕ} (j : ℕ) → Put [] 0 (text_of input) m j → j ≤ 409642 → length out < j → Answers out out (TooShort j)
  unfolding printed out_after
  answers_short out j p b h =
      let e : j ≡ length (text_of input) = put_nowhere p in
      let t : length out < length (text_of input) = omega arith in
      record {
        answer_is = ap TooShort e ∙ sym (if_true (ltb (length out) (length (text_of input))) _ _ (lt-ltb _ _ t));
        after_is = sym (if_true (ltb (length out) (length (text_of input))) _ _ (lt-ltb _ _ t));
        bound = omega arith;
      }

  pub answers_whole : (out : List ℕ) {m after : List ℕ} (j : ℕ) {n : ℕ} → Put [] 0 (text_of input) m j → j ≤ 409642 → j ≤ length out
      → Put out 0 (text_of input) after n → Answers out after (Whole j)
  unfolding printed out_after
  answers_whole out j p b h q =
      let e : j ≡ length (text_of input) = put_nowhere p in
      let t : length (text_of input) ≤ length out = omega arith in
      record {
        answer_is = ap Whole e ∙ sym (if_false (ltb (length out) (length (text_of input))) _ _ (le-ltb _ _ t));
        after_is = put_front q t ∙ sym (if_false (ltb (length out) (length (text_of input))) _ _ (le-ltb _ _ t));
        bound = omega arith;
      }

  -- with room for the longest text it is written at once
  pub answers_at_once : (out : List ℕ) {after : List ℕ} (j : ℕ) → Put out 0 (text_of input) after j → j ≤ 409642 → 409642 ≤ length out → Answers out after (Whole j)
  unfolding printed out_after
  answers_at_once out j q b h =
      let e : j ≡ length (text_of input) = omega (arith, q.next_is) in
      let t : length (text_of input) ≤ length out = omega arith in
      record {
        answer_is = ap Whole e ∙ sym (if_false (ltb (length out) (length (text_of input))) _ _ (le-ltb _ _ t));
        after_is = put_front q t ∙ sym (if_false (ltb (length out) (length (text_of input))) _ _ (le-ltb _ _ t));
        bound = omega arith;
      }

  -- the promise leaves room for one answer and one buffer
  pub one_answer : (out after after' : List ℕ) (answer answer' : Printed) → Answers out after answer → Answers out after' answer'
      → (answer ≡ answer') × (after ≡ after')
  one_answer out after after' answer answer' p q = (p.answer_is ∙ sym q.answer_is, p.after_is ∙ sym q.after_is)
