-- What rounding up and minus modulo N are: laws of `Modular`.
-- Assumes nothing.
use Rattle.std.specs.Prelude.{◌≡◌, ◌↔◌, ℕ, suc, ◌+◌, ◌-◌, ◌*◌, ◌/◌, ◌%◌, ◌≤◌, ◌<◌}
use Rattle.std.proofs.Math.Path.{sym, ap}
use Rattle.std.proofs.Common.{◌∙◌, mod-lt, mod-eq_of_lt}
use native.Mathlib.Omega.{arith}
use Rattle.std.proofs.Math.Nat.{div-add-mod, add-mul-mod_self_left, mod-add-mod, add-mul-div_left, div-eq_of_lt-le, mul-lt-mul_of_pos_left}
use Rattle.counting.specs.Modular.{rounded_up, minus_modulo}

-- equal remainders stay equal when the same is added
pub plus_congruent : (n a b c : ℕ) → a % n ≡ b % n → (a + c) % n ≡ (b + c) % n
plus_congruent n a b c e = sym (mod-add-mod a n c) ∙ ap (λ x. (x + c) % n) e ∙ mod-add-mod b n c

-- b added and taken off again
plus_then_minus : (n a b : ℕ) → 0 < n → (a + b + (n - b % n)) % n ≡ a % n
plus_then_minus n a b h =
    ap (◌% n) (let e : a + b + (n - b % n) ≡ a + n * suc (b / n) = omega (arith, mod-lt b h, div-add-mod b n) in e)
    ∙ add-mul-mod_self_left a n (suc (b / n))

-- the remainder of a multiple is that multiple of a remainder
pub multiple_modulo : (q a m : ℕ) → 0 < q → 0 < m → q * a % (q * m) ≡ q * (a % m)
multiple_modulo q a m h z =
    ap (◌% (q * m)) (let e : q * a ≡ q * (a % m) + q * m * (a / m) = omega (arith, ap (q *◌) (div-add-mod a m)) in e)
    ∙ add-mul-mod_self_left (q * (a % m)) (q * m) (a / m) ∙ mod-eq_of_lt (mul-lt-mul_of_pos_left (mod-lt a z) h)

module _ (n a b : ℕ) (h : 0 < n) where
  -- it is the remainder of c exactly where c and b together have a's remainder
  pub minus_is : (c : ℕ) → (minus_modulo n a b ≡ c % n) ↔ (a % n ≡ (c + b) % n)
  unfolding minus_modulo
  minus_is c = (
    λ e.
        sym (ap (◌% n) (let s : a + (n - b % n) + b ≡ a + b + (n - b % n) = omega arith in s) ∙ plus_then_minus n a b h)
        ∙ plus_congruent n (a + (n - b % n)) c b e,
    λ e. plus_congruent n a (c + b) (n - b % n) e ∙ plus_then_minus n c b h,
  )

module _ (q i : ℕ) where
  -- a multiple of q from i up to below i + q is the one that i is rounded up to
  pub rounded_is : (k : ℕ) → i ≤ q * k → q * k < i + q → rounded_up q i ≡ q * k
  unfolding rounded_up
  rounded_is k l h = ap (q *◌) (div-eq_of_lt-le {k = k} q {m = i + (q - 1)} (omega arith) (omega arith))

  -- multiples of q pass through
  pub rounded_plus : (k : ℕ) → 0 < q → rounded_up q (i + q * k) ≡ rounded_up q i + q * k
  unfolding rounded_up
  rounded_plus k h =
      ap (q *◌) (ap (◌/ q) (let e : i + q * k + (q - 1) ≡ i + (q - 1) + q * k = omega arith in e) ∙ add-mul-div_left (i + (q - 1)) k h)
      ∙ omega arith
