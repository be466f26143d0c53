-- Bytes stored one after the other from a offset of a lent buffer on: what each function of this crate that writes does.
-- A offset past the buffer's end is counted and not written. Assumes nothing.
use Rattle.std.specs.Prelude.{◌≡◌, refl, List, [], ◌∷◌, ◌++◌, ℕ, suc, ◌+◌, ◌≤◌, ◌<◌, length, take, drop, set}
use Rattle.std.proofs.Common.{sym, ap, ◌∙◌, arith, add-one, length-append, take-suc, take_all}
use Rattle.std.proofs.lemmas.List.Edits.{sets, sets-eq}
use Rattle.std.proofs.Math.Seq.{length-sets, set_out}
use Rattle.loops.specs.Choice.{at}

-- `text` was put into `before` at `offset`: the buffer is `after`, and `next` is the offset behind it
pub record Put (before : List ℕ) (offset : ℕ) (text after : List ℕ) (next : ℕ) : Type 0 where
  pub after_is : after ≡ sets before offset text
  pub next_is : next ≡ offset + length text

sets_append : (l : List ℕ) (i : ℕ) (xs ys : List ℕ) → sets l i (xs ++ ys) ≡ sets (sets l i xs) (i + length xs) ys
sets_append l i [] ys = ap (λ (k : ℕ). sets l k ys) (omega arith)
sets_append l i (x ∷ xs) ys = sets_append (set l i x) (suc i) xs ys ∙ ap (λ (k : ℕ). sets (sets l i (x ∷ xs)) k ys) (omega arith)

-- nothing is put
pub put_none : (l : List ℕ) (i : ℕ) → Put l i [] l i
put_none l i = record { after_is = refl; next_is = omega arith }

-- one byte
pub put_one : (l : List ℕ) (i b : ℕ) → Put l i (b ∷ []) (set l i b) (i + 1)
put_one l i b = record { after_is = refl; next_is = refl }

pub put_past : (l : List ℕ) (i b : ℕ) → length l ≤ i → Put l i (b ∷ []) l (i + 1)
put_past l i b h = record { after_is = sym (set_out l i b h); next_is = refl }

-- a text and then another
pub put_then : {l m k : List ℕ} {i j n : ℕ} {xs ys : List ℕ} → Put l i xs m j → Put m j ys k n → Put l i (xs ++ ys) k n
put_then {l} {m} {k} {i} {j} {n} {xs} {ys} p q =
    record {
      after_is = q.after_is ∙ rw (p.after_is, p.next_is) (sym (sets_append l i xs ys));
      next_is = q.next_is ∙ (let e : j + length ys ≡ i + length (xs ++ ys) = omega (arith, p.next_is, length-append xs ys) in e);
    }

-- the same text by another name
pub put_same : {l m : List ℕ} {i j : ℕ} {xs ys : List ℕ} → xs ≡ ys → Put l i xs m j → Put l i ys m j
put_same {l} {m} {i} {j} {xs} {ys} e p = rw (sym e) p

-- the text of one thing, which is another
pub put_like : {A : Type 0} (text : A → List ℕ) {x y : A} {l m : List ℕ} {i j : ℕ} → x ≡ y → Put l i (text y) m j → Put l i (text x) m j
put_like text e p = put_same (sym (ap text e)) p

-- a loop over a word: one more of its bytes
pub put_next : (word : List ℕ) (a : ℕ) {l m k : List ℕ} {i j n : ℕ} → Put l i (take a word) m j → a < length word
    → Put m j (at word a ∷ []) k n → Put l i (take (a + 1) word) k n
put_next word a p h q = put_same (rw (add-one, take-suc word a 0)) (put_then p q)

-- and its end: all of them
pub put_over : (word : List ℕ) (a : ℕ) {l m : List ℕ} {i j : ℕ} → Put l i (take a word) m j → length word ≤ a → Put l i word m j
put_over word a p h = put_same (take_all a word h) p

-- into a buffer without room nothing is written
pub put_nowhere : {m xs : List ℕ} {j : ℕ} → Put [] 0 xs m j → j ≡ length xs
put_nowhere p = omega (arith, p.next_is)

-- into a buffer with room, from its start: the text, and past it what stood there
pub put_front : {l m xs : List ℕ} {j : ℕ} → Put l 0 xs m j → length xs ≤ length l → m ≡ xs ++ drop (length xs) l
put_front {l} {m} {xs} {j} p h = p.after_is ∙ sets-eq xs l 0 (omega arith) ∙ ap (λ (k : ℕ). xs ++ drop k l) (let e : 0 + length xs ≡ length xs = omega arith in e)

-- the buffer keeps its length
pub put_length : {l m xs : List ℕ} {i j : ℕ} → Put l i xs m j → length m ≡ length l
put_length {l} {xs = xs} {i} p = ap length p.after_is ∙ length-sets l i xs
