-- Any other loop over 0, 1, .. n - 1: what it makes of a value turn by turn.
-- `search (rules, folds)` answers such a loop's goals. Assumes nothing.
use Rattle.std.specs.Prelude.{ℕ, zero, suc, ◌+◌, ◌<◌, ◌≤◌, ◌≡◌, refl}
use Rattle.std.proofs.Common.{add-one, arith, ◌∙◌}
unfoldable pub use Rattle.loops.specs.Values.{fold}

-- the invariant at i
pub record Fold {A : Type 0} (f : ℕ → A → A) (a : A) (n i : ℕ) (x : A) : Type 0 where
  pub within : i ≤ n
  pub so_far : x ≡ fold f a i

pub fold_begin : {A : Type 0} (f : ℕ → A → A) (a : A) (n : ℕ) → Fold f a n 0 a
unfolding fold
fold_begin f a n = record { within = omega arith; so_far = refl }

pub fold_more : {A : Type 0} {f : ℕ → A → A} {a : A} {n i : ℕ} {x y : A} → Fold f a n i x → i < n → y ≡ f i x → Fold f a n (i + 1) y
unfolding fold
fold_more {i = i} inv h e = record { within = omega arith; so_far = e ∙ rw (inv.so_far, add-one) }

pub fold_over : {A : Type 0} {f : ℕ → A → A} {a : A} {n i : ℕ} {x : A} → Fold f a n i x → n ≤ i → x ≡ fold f a n
fold_over {n = n} {i = i} inv h = let e : i ≡ n = omega arith in inv.so_far ∙ rw e

pub ruleset folds = (fold_begin, fold_more, fold_over)

-- what holds at the start and is kept by each turn holds at the end
pub fold_keeps : {A : Type 0} (P : A → Type 0) (f : ℕ → A → A) (a : A) (n : ℕ) → P a → ((k : ℕ) (x : A) → k < n → P x → P (f k x)) → P (fold f a n)
unfolding fold
fold_keeps P f a zero p h = p
fold_keeps P f a (suc n) p h = h n (fold f a n) (omega arith) (fold_keeps P f a n p (λ k x l. h k x (omega arith)))
