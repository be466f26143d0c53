-- The transcript's answer in words tells every two results apart. Assumes nothing.
use Rattle.std.specs.Prelude.{◌≡◌, List, ℕ, Result, Ok, Err}
use Rattle.std.proofs.Common.{ap, arith, sym}
use Rattle.transcript.specs.declared.TooShort as code
use Rattle.transcript.specs.Text.{Whole, TooShort, printed_as}
use Rattle.transcript.specs.Printing.{Answers, one_answer}

whole_one : {m n : ℕ} → Whole m ≡ Whole n → m ≡ n
whole_one e = cc

short_one : {m n : ℕ} → TooShort m ≡ TooShort n → m ≡ n
short_one e = cc

whole_not_short : {m n : ℕ} → Whole m ≡ TooShort n → ⊥
whole_not_short e = let z : ◌≡◌ {A = ℕ} 0 1 = cc in omega arith

pub printed_one : (r r' : Result ℕ code.TooShort) → printed_as r ≡ printed_as r' → r ≡ r'
printed_one (Ok m) (Ok n) e = ap Ok (whole_one e)
printed_one (Ok m) (Err x) e = absurd (whole_not_short e)
printed_one (Err x) (Ok m) e = absurd (whole_not_short (sym e))
printed_one (Err x) (Err y) e = ap (λ k. Err (record { needed = k })) (short_one e)

-- the promise of `transcript` leaves room for one result of the code, and one buffer
pub transcript_one : (input out : List ℕ) {after after' : List ℕ} {r r' : Result ℕ code.TooShort} → Answers input out after (printed_as r)
    → Answers input out after' (printed_as r') → (r ≡ r') × (after ≡ after')
transcript_one input out {after} {after'} {r} {r'} p q =
    let same = one_answer input out after after' (printed_as r) (printed_as r') p q in
    (printed_one r r' same.0, same.1)
