-- What a read or a write answered, as a number and in words: an error is a failure, and nothing else is. Assumes nothing.
use Rattle.std.specs.Prelude.{◌≡◌, refl, true, false, List, ℕ, ◌≤◌, min, T, ℤ, pos, negsuc, length, Result, Ok, Err}
use Rattle.std.proofs.Common.{subst, sym, ap, ◌∙◌, arith, ltb→lt}
use Rattle.std.specs.Int.Signed.{lt_z}
use Rattle.std.specs.Counts.{clamp_len}
use Rattle.std.specs.Io.{ReadsAtMost}
use Rattle.std.specs.Result.{MatchResult, IsErr}

-- how many bytes were moved, or that a call failed
pub data Got : Type 0 where
  Bytes : (count : ℕ) → Got
  Failed : Got

-- what a function of this crate answers, in these words
abbrev pub got_of : {E : Type 0} → Result ℕ E → Got
got_of (Ok count) = Bytes count
got_of (Err error) = Failed

-- what a call on so many bytes answered: a number below 0 is a failure, and no other is
abbrev pub answered : ℤ → ℕ → Got
answered (pos k) most = Bytes (min k most)
answered (negsuc k) most = Failed

-- a call's answer as such a number: how many bytes it moved, or -1 where it failed
abbrev pub number : {E : Type 0} → Result ℕ E → ℤ
number (Ok count) = pos count
number (Err error) = negsuc 0

-- what a call's answer comes to, on so many bytes
abbrev pub counts_as : {E : Type 0} → Result ℕ E → ℕ → Got
counts_as answer most = answered (number answer) most

pub below_zero : (answer : ℤ) (most : ℕ) → lt_z answer (pos 0) ≡ true → Failed ≡ answered answer most
below_zero (pos k) most e = let h = ltb→lt k 0 (subst T (sym e) tt) in absurd (omega arith)
below_zero (negsuc k) most e = refl

pub not_below_zero : (answer : ℤ) (most count : ℕ) → lt_z answer (pos 0) ≡ false → count ≡ clamp_len answer most → Bytes count ≡ answered answer most
not_below_zero (pos k) most count e h = ap Bytes h
not_below_zero (negsuc k) most count e h = let z : ◌≡◌ {A = ℕ} 0 1 = cc in absurd (omega arith)

-- where a call's error, and nothing else, is made a failure, what comes of it is what the call answered
pub got_is : {E F : Type 0} (most : ℕ) (answer : Result ℕ E) (result : Result ℕ F) → MatchResult answer (λ count. (result ≡ Ok count) × (count ≤ most)) (λ error. IsErr result)
    → got_of result ≡ answered (number answer) most
got_is most (Ok count) result h = ap got_of h.0 ∙ ap Bytes (let e : count ≡ min count most = omega (arith, h.1) in e)
got_is most (Err error) (Ok count) h = let z : ◌≡◌ {A = ℕ} 0 1 = cc in absurd (omega arith)
got_is most (Err error) (Err failure) h = refl

-- the same of an answer that counts within its bytes
pub counted_is : {E F : Type 0} (bytes : List ℕ) (answer : Result ℕ E) (result : Result ℕ F) → ReadsAtMost answer bytes
    → MatchResult answer (λ count. result ≡ Ok count) (λ error. IsErr result) → got_of result ≡ counts_as answer (length bytes)
counted_is {E} bytes (Ok count) result w h = got_is {E = E} (length bytes) (Ok count) result (h, w.0)
counted_is {E} bytes (Err error) result w h = got_is {E = E} (length bytes) (Err error) result h
