-- A row that is copied into a longer list at once is stored there entry by entry.
-- Assumes nothing.
use Rattle.std.specs.Prelude.{◌≡◌, ℕ, zero, suc, ◌+◌, ◌≤◌, List, ◌++◌, length, set, take, drop}
use Rattle.std.proofs.Common.{arith, sym, ap, ◌∙◌, length-append, append_assoc, append-nil}
use Rattle.std.proofs.Math.Seq.{take-suc, drop-cons}
use Rattle.std.proofs.lemmas.List.{take-append-drop, length-take-le, set_at, drop-drop}
use borrow.Rule.Slice.PartMut.{put_mid}
use Rattle.loops.specs.Choice.{at}
use Rattle.loops.specs.Row.{stored}

-- the same, in three parts
parts : (row l : List ℕ) (a n : ℕ) → n ≤ length row → a + n ≤ length l
    → stored (at row) a l n ≡ (take a l ++ take n row) ++ drop (a + n) l
unfolding stored
parts row l a zero h k = let e : a + 0 ≡ a = omega arith in sym (rw e (simp append-nil (take-append-drop a l)))
parts row l a (suc n) h k =
    let here : length (take a l ++ take n row) ≡ a + n =
    length-append (take a l) (take n row) ∙ omega (arith, length-take-le a l (omega arith), length-take-le n row (omega arith)) in
    let next : a + suc n ≡ suc (a + n) = omega arith in
    ap (λ x. set x (a + n) (at row n)) (parts row l a n (omega arith) (omega arith) ∙ rw (drop-cons l (a + n) 0 (omega arith)))
    ∙ set_at (take a l ++ take n row) (at l (a + n)) (drop (suc (a + n)) l) (at row n) (a + n) here
    ∙ rw (next, take-suc row n 0 (omega arith)) (simp append_assoc)

pub copied : (row l ys : List ℕ) (a k n : ℕ) → n ≤ length row → a + n ≤ length l → k ≡ n → ys ≡ take n row → put_mid a k l ys ≡ stored (at row) a l n
copied row l ys a k n h m e f = rw (e, f, drop-drop) (simp append_assoc at (sym (parts row l a n h m)))
