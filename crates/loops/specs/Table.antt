-- A table that is filled from the front, with 0 past what was filled.
-- `search (rules, fills)` answers such a loop's goals. Assumes nothing.
use Rattle.std.specs.Prelude.{ℕ, zero, suc, ◌+◌, ◌-◌, ◌<◌, ◌≤◌, ◌≡◌, refl, List, [], ◌∷◌, ◌++◌, length, set, replicate}
use Rattle.std.proofs.Common.{eq-or-lt_of_le, le_of_suc-le-suc, add-one, arith, sym, ap, ◌∙◌, ⊎_elim, length-append, get_or-append-add}
use Rattle.std.proofs.lemmas.List.{length-replicate, set_at, get_or_at}
use Rattle.std.proofs.Math.ListN.{get_or-append}
use Rattle.std.proofs.Math.Seq.{append_snoc}
use Rattle.loops.specs.Choice.{at}
unfoldable pub use Rattle.loops.specs.Values.{entries, padded}

pub entries_length : (f : ℕ → ℕ) (n : ℕ) → length (entries f n) ≡ n
unfolding entries
entries_length f zero = refl
entries_length f (suc n) = length-append (entries f n) (f n ∷ []) ∙ rw (entries_length f n) (omega arith)

pub padded_length : (f : ℕ → ℕ) (size n : ℕ) → n ≤ size → length (padded f size n) ≡ size
unfolding padded
padded_length f size n h = simp (length-append, entries_length, length-replicate) (omega arith)

-- the invariant at i
pub record Fill (f : ℕ → ℕ) (size n i : ℕ) (t : List ℕ) : Type 0 where
  pub within : i ≤ n
  pub so_far : t ≡ padded f size i

padded_next : (f : ℕ → ℕ) (size i : ℕ) → i < size → set (padded f size i) i (f i) ≡ padded f size (i + 1)
unfolding padded entries
padded_next f size i h =
    let e : size - i ≡ suc (size - (i + 1)) = omega arith in
    rw (e, add-one) (set_at (entries f i) 0 (replicate (size - suc i) 0) (f i) i (entries_length f i) ∙ sym (append_snoc (entries f i) (f i) (replicate (size - suc i) 0)))

pub fill_begin : (f : ℕ → ℕ) (size n : ℕ) → Fill f size n 0 (replicate size 0)
unfolding padded entries
fill_begin f size n = let e : size - 0 ≡ size = omega arith in record { within = omega arith; so_far = rw e }

pub fill_more : {f : ℕ → ℕ} {size n i : ℕ} {t : List ℕ} {r : ℕ} → Fill f size n i t → i < n → n ≤ size → r ≡ f i → Fill f size n (i + 1) (set t i r)
fill_more {f} {size} {n} {i} inv h l e = record { within = omega arith; so_far = rw (inv.so_far, e) (padded_next f size i (omega arith)) }

pub fill_over : {f : ℕ → ℕ} {size n i : ℕ} {t : List ℕ} → Fill f size n i t → n ≤ i → t ≡ padded f size n
fill_over {n = n} {i = i} inv h = let e : i ≡ n = omega arith in inv.so_far ∙ rw e

pub ruleset fills = (fill_begin, fill_more, fill_over)

-- what stands in such a table
entries_at : (f : ℕ → ℕ) (n k : ℕ) → k < n → at (entries f n) k ≡ f k
unfolding entries
entries_at f zero k h = absurd (omega arith)
entries_at f (suc n) k h =
    ⊎_elim (λ e. rw e (get_or_at (entries f n) (f n) [] 0 n (entries_length f n)))
    (λ l. get_or-append (entries f n) (f n ∷ []) 0 k (rw entries_length l) ∙ entries_at f n k l)
    (eq-or-lt_of_le (le_of_suc-le-suc h))

pub padded_at : (f : ℕ → ℕ) (size n k : ℕ) → k < n → at (padded f size n) k ≡ f k
unfolding padded
padded_at f size n k h = get_or-append (entries f n) (replicate (size - n) 0) 0 k (rw entries_length h) ∙ entries_at f n k h

-- nothing but 0 stands in a list of 0
pub zeros_at : (n k : ℕ) → at (replicate n 0) k ≡ 0
zeros_at zero k = refl
zeros_at (suc n) zero = refl
zeros_at (suc n) (suc k) = zeros_at n k

-- past the entries stands 0
pub padded_past : (f : ℕ → ℕ) (size n k : ℕ) → n ≤ k → at (padded f size n) k ≡ 0
unfolding padded
padded_past f size n k h =
    ap (at (entries f n ++ replicate (size - n) 0)) (let e : k ≡ length (entries f n) + (k - n) = omega (arith, entries_length f n) in e)
    ∙ get_or-append-add (entries f n) (replicate (size - n) 0) (k - n) 0 ∙ zeros_at (size - n) (k - n)
