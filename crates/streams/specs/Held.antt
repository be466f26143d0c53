-- What the contracts of `streams` cite: the bytes that were moved are counted within the bytes that were lent, and are those that the input had
-- next or the output holds last. Assumes nothing.
use Rattle.std.specs.Prelude.{◌≡◌, List, ℕ, ◌<◌, ◌≤◌, length, take, Option, Result, Ok, Err}
use Rattle.std.specs.Io.KnownBytes.{Appends, Consumes, IsAtEnd}
use Rattle.std.specs.Int.{from_le_bytes, w32}
use Rattle.std.specs.List.{FoldsTo}
use Rattle.std.proofs.Common.{subst, sym, length-take-le}
use Rattle.std.specs.Counts.{IsPrefixLen}

-- a count is within the bytes; of a failure nothing is said
abbrev pub Held : {E : Type 0} → Result ℕ E → List ℕ → Type 0
Held (Ok count) bytes = IsPrefixLen count bytes
Held (Err error) bytes = Unit {0}

-- the buffer's first bytes are those that the input had next, and all that it had where they are fewer than the buffer has; where a read failed,
-- those that are gone from the input are in the buffer, too
abbrev pub Takes : {E : Type 0} → Option (List ℕ) → Option (List ℕ) → Result ℕ E → List ℕ → Type 0
Takes old new (Ok count) buffer = Consumes old new (take count buffer) × (count < length buffer → IsAtEnd new)
Takes old new (Err error) buffer = (count : ℕ) × (count ≤ length buffer) × Consumes old new (take count buffer)

-- the input's next four bytes are gone from it: the number, the lower byte first
abbrev pub TakesNumber : Option (List ℕ) → Option (List ℕ) → ℕ → Type 0
TakesNumber old new number = (bytes : List ℕ) × (length bytes ≡ 4) × (number ≡ from_le_bytes w32 bytes) × Consumes old new bytes

-- of the text its first bytes were written, and no other byte
abbrev pub AppendsPart : Option (List ℕ) → Option (List ℕ) → List ℕ → Type 0
AppendsPart old new text = (count : ℕ) × Appends old new (take count text)

-- a call was made again and again while it failed, and its last answer counts
pub record Tried {C T E : Type 0} (step : C → Result T E → C → Type 0) (first : C) (answer : Result T E) (last : C) : Type 0 where
  pub errors : List E
  pub before : C
  pub failed : FoldsTo (λ p e q. step p (Err e) q) first errors before
  pub answered : step before answer last

-- where bytes were moved they are counted
pub held : {E : Type 0} (got : Result ℕ E) (bytes : List ℕ) → Held got bytes → (count : ℕ) → got ≡ Ok count → IsPrefixLen count bytes
held {E} got bytes h count e = subst (λ (g : Result ℕ E). Held g bytes) e h

-- a number within the bytes counts them
pub counts : (count : ℕ) (bytes : List ℕ) → count ≤ length bytes → IsPrefixLen count bytes
counts count bytes h = (h, sym (length-take-le count bytes h))
