-- What is put behind a text in a lent buffer, and that the text stays in that buffer. Assumes nothing.
use Rattle.std.specs.Prelude.{◌≡◌, refl, ℕ, List, [], ◌∷◌, ◌++◌, ◌+◌, ◌<◌, ◌≤◌, length, take}
use Rattle.std.proofs.Common.{sym, ap, ◌∙◌}
use Rattle.numerals.specs.declared.text.Text.{Text}
use Rattle.numerals.specs.Writing.{Put, put_none, put_then, put_same, put_next, put_over}
use Rattle.loops.specs.Choice.{at}

-- `word` was put behind the text `old`, which is `new` then, in the same buffer
pub record Puts (old : Text) (word : List ℕ) (new : Text) : Type 0 where
  pub text : Put old.buffer.now old.length word new.buffer.now new.length
  pub same_buffer : new.buffer.ghost_name ≡ old.buffer.ghost_name

-- nothing is put
pub puts_none : (t : Text) → Puts t [] t
puts_none t = record { text = put_none _ _; same_buffer = refl }

-- a word and then another
pub puts_then : {a b c : Text} {xs ys : List ℕ} → Puts a xs b → Puts b ys c → Puts a (xs ++ ys) c
puts_then p q = record { text = put_then p.text q.text; same_buffer = q.same_buffer ∙ p.same_buffer }

-- the same word by another name
pub puts_same : {a b : Text} {xs ys : List ℕ} → xs ≡ ys → Puts a xs b → Puts a ys b
puts_same e p = record { text = put_same e p.text; same_buffer = p.same_buffer }

-- the text of one thing, which is another
pub puts_like : {A : Type 0} (text : A → List ℕ) {x y : A} {a b : Text} → x ≡ y → Puts a (text y) b → Puts a (text x) b
puts_like text e p = puts_same (sym (ap text e)) p

-- a loop over a word: one more of its bytes
pub puts_next : (word : List ℕ) (k : ℕ) {a b c : Text} → Puts a (take k word) b → k < length word → Puts b (at word k ∷ []) c → Puts a (take (k + 1) word) c
puts_next word k p h q = record { text = put_next word k p.text h q.text; same_buffer = q.same_buffer ∙ p.same_buffer }

-- and its end: all of them
pub puts_over : (word : List ℕ) (k : ℕ) {a b : Text} → Puts a (take k word) b → length word ≤ k → Puts a word b
puts_over word k p h = record { text = put_over word k p.text h; same_buffer = p.same_buffer }
