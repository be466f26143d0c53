-- A row of a longer list that is updated in place, entry by entry: the list with f 0, f 1, .. from `base` on.
-- `search (rules, rows)` answers such a loop's goals. Assumes nothing.
use Rattle.std.specs.Prelude.{ℕ, zero, suc, ◌+◌, ◌<◌, ◌≤◌, ◌≡◌, refl, List, length, set}
use Rattle.std.proofs.Common.{add-one, arith, sym, ap, ◌∙◌, length-set, get_or-set_same, get_or-set_other}
use Rattle.std.proofs.Math.Decide.{ℕ_discrete}
use Rattle.loops.specs.Choice.{at}
unfoldable pub use Rattle.loops.specs.Values.{stored}

-- the invariant at i
pub record Row (f : ℕ → ℕ) (base : ℕ) (l : List ℕ) (n i : ℕ) (x : List ℕ) : Type 0 where
  pub within : i ≤ n
  pub so_far : x ≡ stored f base l i

pub row_begin : (f : ℕ → ℕ) (base : ℕ) (l : List ℕ) (n : ℕ) → Row f base l n 0 l
unfolding stored
row_begin f base l n = record { within = omega arith; so_far = refl }

pub row_more : {f : ℕ → ℕ} {base : ℕ} {l : List ℕ} {n i : ℕ} {x : List ℕ} {r : ℕ} → Row f base l n i x → i < n → r ≡ f i → Row f base l n (i + 1) (set x (base + i) r)
unfolding stored
row_more {i = i} inv h e = record { within = omega arith; so_far = rw (inv.so_far, e, add-one) }

pub row_over : {f : ℕ → ℕ} {base : ℕ} {l : List ℕ} {n i : ℕ} {x : List ℕ} → Row f base l n i x → n ≤ i → x ≡ stored f base l n
row_over {n = n} {i = i} inv h = let e : i ≡ n = omega arith in inv.so_far ∙ rw e

pub ruleset rows = (row_begin, row_more, row_over)

pub stored_length : (f : ℕ → ℕ) (base : ℕ) (l : List ℕ) (n : ℕ) → length (stored f base l n) ≡ length l
unfolding stored
stored_length f base l zero = refl
stored_length f base l (suc n) = length-set (stored f base l n) (base + n) (f n) ∙ stored_length f base l n

-- in the row stands what was stored
pub stored_at : (f : ℕ → ℕ) (base : ℕ) (l : List ℕ) (n k : ℕ) → k < n → base + n ≤ length l → at (stored f base l n) (base + k) ≡ f k
unfolding stored
stored_at f base l zero k h r = absurd (omega arith)
stored_at f base l (suc n) k h r =
    elim (ℕ_discrete k n) [
      | yes p ↦
          ap (λ j. at (set (stored f base l n) (base + n) (f n)) (base + j)) p
          ∙ get_or-set_same (stored f base l n) (base + n) (f n) 0 (omega (arith, stored_length f base l n)) ∙ ap f (sym p)
      | no p ↦
          get_or-set_other (stored f base l n) (base + n) (base + k) (f n) 0 (λ q. p (omega arith)) ∙ stored_at f base l n k (omega arith) (omega arith)
    ]

-- and elsewhere what stood there before
pub stored_other : (f : ℕ → ℕ) (base : ℕ) (l : List ℕ) (n k : ℕ) → ((j : ℕ) → j < n → k ≡ base + j → ⊥) → at (stored f base l n) k ≡ at l k
unfolding stored
stored_other f base l zero k h = refl
stored_other f base l (suc n) k h =
    get_or-set_other (stored f base l n) (base + n) k (f n) 0 (h n (omega arith)) ∙ stored_other f base l n k (λ j m. h j (omega arith))
