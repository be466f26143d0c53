-- Facts 3 and 4 of 000, section 3.1.2, for natural numbers.
-- Assumes nothing.
use Rattle.std.specs.Prelude.{◌≡◌, ℕ, ◌+◌, ◌*◌, ◌/◌, ◌%◌, ◌<◌}
use Rattle.std.proofs.Common.{sym, ap, ◌∙◌, arith}
use Rattle.std.proofs.Math.Nat.{div-add-mod, add-mul-mod_self_left, add-mul-div_left}
use Rattle.counting.specs.Modular.{Divides, rounded_up}
use Rattle.counting.specs.Remainders.{rounded_plus}

module _ (q n : ℕ) (h : 0 < q) where
  -- a number rounded up is its remainder rounded up, and whole moduli
  rounded_of_remainder : (a : ℕ) (d : Divides q n) → rounded_up q a ≡ rounded_up q (a % n) + n * (a / n)
  rounded_of_remainder a d =
      let e : n * (a / n) ≡ q * (d.0 * (a / n)) = omega (arith, ap (◌* (a / n)) d.1) in
      ap (rounded_up q) (let s : a ≡ a % n + q * (d.0 * (a / n)) = omega (arith, div-add-mod a n) in s)
      ∙ rounded_plus q (a % n) (d.0 * (a / n)) h ∙ ap (rounded_up q (a % n) +◌) (sym e)

  -- Fact 3
  pub fact_3 : (a : ℕ) → Divides q n → rounded_up q a % n ≡ rounded_up q (a % n) % n
  fact_3 a d = ap (◌% n) (rounded_of_remainder a d) ∙ add-mul-mod_self_left (rounded_up q (a % n)) n (a / n)

  -- Fact 4
  pub fact_4 : (a b B : ℕ) → Divides (q * B) n → (rounded_up q a / q + b) % B ≡ (rounded_up q (a % n) / q + b) % B
  fact_4 a b B d =
      let k : ℕ = d.0 * (a / n) in
      let e : n * (a / n) ≡ q * (B * k) = omega (arith, ap (◌* (a / n)) d.1) in
      ap (λ x. (x / q + b) % B) (rounded_of_remainder a (B * d.0, omega (arith, d.1)) ∙ ap (rounded_up q (a % n) +◌) e)
      ∙ ap (λ x. (x + b) % B) (add-mul-div_left (rounded_up q (a % n)) (B * k) h)
      ∙ ap (◌% B) (let s : rounded_up q (a % n) / q + B * k + b ≡ rounded_up q (a % n) / q + b + B * k = omega arith in s)
      ∙ add-mul-mod_self_left (rounded_up q (a % n) / q + b) B k
