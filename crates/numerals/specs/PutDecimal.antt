-- A number put digit by digit: one digit, or those before the last and then the last. Assumes nothing.
use Rattle.std.specs.Prelude.{◌≡◌, List, [], ◌∷◌, ℕ, ◌+◌, ◌/◌, ◌%◌, ◌≤◌, ◌<◌, length}
use Rattle.std.proofs.Common.{sym, ap, ◌∙◌, arith}
use Rattle.numerals.specs.Decimal.{decimal, decimal_one, decimal_more, few_digits}
use Rattle.numerals.specs.Writing.{Put, put_then, put_same}

-- a number of 32 bits has at most ten digits
pub at_most_ten : (n : ℕ) → n < 4294967296 → length (decimal n) ≤ 10
at_most_ten n h = few_digits 9 n (omega arith)

bounded : {l m : List ℕ} {i j : ℕ} (n : ℕ) → n < 4294967296 → Put l i (decimal n) m j → Put l i (decimal n) m j × (j ≤ i + 10)
bounded n h p = (p, omega (arith, p.next_is, at_most_ten n h))

pub put_digit : {l m : List ℕ} {i j d : ℕ} (n : ℕ) → n < 10 → d ≡ 48 + n → Put l i (d ∷ []) m j → Put l i (decimal n) m j × (j ≤ i + 10)
put_digit n h e p = bounded n (omega arith) (put_same (ap (λ (d : ℕ). d ∷ []) e ∙ sym (decimal_one n h)) p)

pub put_digits : {l m k : List ℕ} {i j r d : ℕ} (n : ℕ) → 10 ≤ n → n < 4294967296 → Put l i (decimal (n / 10)) m j → d ≡ 48 + n % 10
    → Put m j (d ∷ []) k r → Put l i (decimal n) k r × (r ≤ i + 10)
put_digits n h f p e q =
    bounded n f (put_same (sym (decimal_more n h)) (put_then p (put_same (ap (λ (d : ℕ). d ∷ []) e) q)))
