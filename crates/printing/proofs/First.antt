-- What `transcript` answers for a buffer that has room for every text: the text's length, and the text in the buffer's first bytes.
use Rattle.std.proofs.Common.{◌≡◌, ◌≤◌, List, ℕ, refl, length, take, drop, arith, sym, length-take-le, take_at}
use Rattle.transcript.specs.Printing.{Answers}
use Rattle.transcript.specs.Room.{text_written, whole_fits, whole_length}
use Rattle.transcript.specs.Text.{text_of, Whole}

pub text_first : (input out after : List ℕ) (n : ℕ) → Answers input out after (Whole n) → length out ≡ 409642 → take n after ≡ text_of input
text_first input out after n answers room =
    rw (text_written input out after (Whole n) answers (omega arith))
    (take_at (text_of input) (drop (length (text_of input)) out) n (sym (whole_length input out after (Whole n) answers (omega arith) n refl)))

pub fits : (input out after : List ℕ) (n : ℕ) → Answers input out after (Whole n) → length out ≡ 409642 → length after ≡ 409642 → n ≤ length after
fits input out after n answers room same = omega (arith, whole_fits input out after (Whole n) answers (omega arith) n refl)

pub counted : (input out after : List ℕ) (n : ℕ) → Answers input out after (Whole n) → length out ≡ 409642 → length after ≡ 409642
    → n ≡ length (take n after)
counted input out after n answers room same = sym (length-take-le n after (fits input out after n answers room same))
