-- The text of what was read is that of the whole input, also where one byte more than the most was read.
use Rattle.std.proofs.Common.{◌≡◌, ◌<◌, ◌++◌, List, [], ℕ, Option, None, Some, IfSome, Result, OnOk, OnErr, length, take, arith, sym, ap, ◌∙◌, subst, inl, inr, append-nil, length-append, length-take-le}
use Rattle.std.specs.Io.KnownBytes.{Appends, Consumes, IsAtEnd}
use Rattle.streams.specs.Held.{AppendsPart}
use Rattle.std.proofs.lemmas.Bool.{cases_lt}
use Rattle.std.proofs.lemmas.Result.{on_ok_weaker, on_err_weaker}
use Rattle.transcript.specs.Printing.{text_long}
use Rattle.transcript.specs.Text.{text_of}
use Rattle.std.specs.Counts.{IsPrefixLen}

-- more than the most is too long, whatever follows
too_long : (front rest : List ℕ) → 65536 < length front → text_of front ≡ text_of (front ++ rest)
too_long front rest long = sym (text_long front long) ∙ text_long (front ++ rest) (omega (arith, length-append front rest))

same_text : (front rest : List ℕ) → (length front < 65537 → rest ≡ []) → text_of front ≡ text_of (front ++ rest)
same_text front rest end =
    elim (cases_lt (length front) 65537) [
      | inl short ↦ ap text_of (sym (append-nil front) ∙ ap (λ l. front ++ l) (sym (end short)))
      | inr long ↦ too_long front rest (omega arith)
    ]

-- a fact on the text of what was read is one on the text of all that the input had
of_all : (old new : Option (List ℕ)) (front : List ℕ) (P : List ℕ → Type 0) → Consumes old new front → (length front < 65537 → IsAtEnd new)
    → P (text_of front) → IfSome old (λ bytes. P (text_of bytes))
of_all None new front P consumed end h = tt
of_all (Some xs) None front P consumed end h = absurd consumed
of_all (Some xs) (Some ys) front P consumed end h = subst P (same_text front ys end ∙ ap text_of (sym consumed)) h

module _ {E : Type 0} (old new a b : Option (List ℕ)) (answer : Result (Unit {0}) E) (count : ℕ) (buffer : List ℕ) (held : IsPrefixLen count buffer)
    (room : length buffer ≡ 65537) (consumed : Consumes old new (take count buffer)) (end : count < length buffer → IsAtEnd new) where
  front_end : length (take count buffer) < 65537 → IsAtEnd new
  front_end short = end (omega (arith, length-take-le _ _ held.0))

  pub whole : OnOk answer (Appends a b (text_of (take count buffer))) → OnOk answer (IfSome old (λ bytes. Appends a b (text_of bytes)))
  whole printed = on_ok_weaker _ (of_all old new _ (Appends a b) consumed front_end) printed

  pub part : OnErr answer (AppendsPart a b (text_of (take count buffer))) → OnErr answer (IfSome old (λ bytes. AppendsPart a b (text_of bytes)))
  part printed = on_err_weaker _ (of_all old new _ (AppendsPart a b) consumed front_end) printed
