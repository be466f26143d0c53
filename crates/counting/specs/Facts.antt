-- Facts 1 and 2 of 000, section 3.1.2, for natural numbers.
-- Assumes nothing.
use Rattle.std.specs.Prelude.{◌≡◌, ◌↔◌, ℕ, ◌+◌, ◌/◌, ◌%◌, ◌≤◌, ◌<◌}
use Rattle.std.proofs.Common.{ap, ◌∙◌, arith, mul-le-mul_left}
use Rattle.std.proofs.Math.Decide.{dec_lt}
use Rattle.std.proofs.Math.Nat.{div-add-mod, mod-mod, mod-add-mod, add-mod}
use Rattle.counting.specs.Modular.{minus_modulo}

-- Fact 1 for plus: a remainder may be taken of the summands first
pub fact_1_plus : (n a b : ℕ) → (a + b) % n % n ≡ (a % n + b % n) % n
fact_1_plus n a b = mod-mod (a + b) n ∙ add-mod a b n

-- Fact 1 for minus
pub fact_1_minus : (n a b : ℕ) → minus_modulo n a b % n ≡ minus_modulo n (a % n) (b % n)
unfolding minus_modulo
fact_1_minus n a b = simp (mod-mod, mod-add-mod)

-- two numbers less than N apart are equal where their remainders are: Fact 2 with c for 000's b + p, of which b may be below 0
pub same_if_near : (n a c : ℕ) → a ≤ c → c < a + n → a % n ≡ c % n → a ≡ c
same_if_near n a c l h e =
    elim (dec_lt (a / n) (c / n)) [
      | yes p ↦ omega (arith, div-add-mod a n, div-add-mod c n, mul-le-mul_left n p)
      | no p ↦ omega (arith, div-add-mod a n, div-add-mod c n, mul-le-mul_left {m = c / n} {n = a / n} n (omega arith))
    ]

-- Fact 2 as it is printed: for p < N and a from b to b + p
pub fact_2 : (n a b p : ℕ) → p < n → b ≤ a → a ≤ b + p → (a ≡ b + p) ↔ (a % n ≡ (b + p) % n)
fact_2 n a b p h l u = (ap (◌% n), same_if_near n a (b + p) u (omega arith))
