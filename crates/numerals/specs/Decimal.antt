-- A number in decimal digits without a leading zero. Reading the digits gives the number back.
-- Assumes nothing.
use Rattle.std.specs.Prelude.{◌≡◌, refl, List, [], ◌∷◌, ◌++◌, ℕ, zero, suc, ◌+◌, ◌-◌, ◌*◌, ◌/◌, ◌%◌, ◌^◌, ◌≤◌, ◌<◌, ltb, length}
use Rattle.std.proofs.Common.{sym, ap, ◌∙◌, arith, pow-suc, length-append, lt-ltb, le-ltb}
use Rattle.std.proofs.Math.Decide.{dec_lt}
use Rattle.std.proofs.Math.ListN.{get_or-append}
use Rattle.loops.specs.Choice.{at, if, if_true, if_false}

-- the byte of a digit: `0` is 48
abbrev pub digit : ℕ → ℕ
digit d = 48 + d

-- the digits of n, the most significant first; `rounds` is how often it may be divided
unfoldable pub digits : ℕ → ℕ → List ℕ
digits zero n = digit (n % 10) ∷ []
digits (suc rounds) n = if (ltb n 10) (digit n ∷ []) (digits rounds (n / 10) ++ (digit (n % 10) ∷ []))

-- n in decimal digits
unfoldable pub decimal : ℕ → List ℕ
decimal n = digits n n

-- a number and the byte behind it
unfoldable pub number_then : ℕ → ℕ → List ℕ
number_then n byte = decimal n ++ (byte ∷ [])

-- the number that digits stand for, read from the left after the number `before`
unfoldable pub read_on : ℕ → List ℕ → ℕ
read_on before [] = before
read_on before (d ∷ ds) = read_on (10 * before + (d - 48)) ds

unfoldable pub number_in : List ℕ → ℕ
number_in ds = read_on 0 ds

-- ---- how the digits are made
one_digit : (rounds n : ℕ) → n < 10 → digits rounds n ≡ digit n ∷ []
unfolding digits
one_digit zero n h = ap (λ (d : ℕ). digit d ∷ []) (omega arith)
one_digit (suc rounds) n h = if_true (ltb n 10) _ _ (lt-ltb n 10 h)

more_digits : (rounds n : ℕ) → 10 ≤ n → digits (suc rounds) n ≡ digits rounds (n / 10) ++ (digit (n % 10) ∷ [])
unfolding digits
more_digits rounds n h = if_false (ltb n 10) _ _ (le-ltb n 10 h)

-- rounds past the number change nothing
enough : (more less n : ℕ) → n ≤ more → n ≤ less → digits more n ≡ digits less n
enough zero less n h l = one_digit zero n (omega arith) ∙ sym (one_digit less n (omega arith))
enough (suc more) zero n h l = one_digit (suc more) n (omega arith) ∙ sym (one_digit zero n (omega arith))
enough (suc more) (suc less) n h l =
    elim (dec_lt n 10) [
      | yes p ↦ one_digit (suc more) n p ∙ sym (one_digit (suc less) n p)
      | no p ↦
          more_digits more n (omega arith) ∙ ap (λ (ds : List ℕ). ds ++ (digit (n % 10) ∷ [])) (enough more less (n / 10) (omega arith) (omega arith))
          ∙ sym (more_digits less n (omega arith))
    ]

pub decimal_one : (n : ℕ) → n < 10 → decimal n ≡ digit n ∷ []
unfolding decimal
decimal_one n h = one_digit n n h

pub decimal_more : (n : ℕ) → 10 ≤ n → decimal n ≡ decimal (n / 10) ++ (digit (n % 10) ∷ [])
unfolding decimal
decimal_more zero h = absurd (omega arith)
decimal_more (suc n) h =
    more_digits n (suc n) h ∙ ap (λ (ds : List ℕ). ds ++ (digit (suc n % 10) ∷ [])) (enough n (suc n / 10) (suc n / 10) (omega arith) (omega arith))

-- what holds of one digit, and of more digits where it holds of those before the last, holds of every decimal
pub by_digits : (P : ℕ → List ℕ → Type 0) → ((n : ℕ) → n < 10 → P n (digit n ∷ []))
    → ((n : ℕ) (ds : List ℕ) → 10 ≤ n → P (n / 10) ds → P n (ds ++ (digit (n % 10) ∷ []))) → (n : ℕ) → P n (decimal n)
unfolding decimal
by_digits P one more n = go n n (omega arith)
  where
    go : (rounds n : ℕ) → n ≤ rounds → P n (digits rounds n)
    go zero n h = rw (one_digit zero n (omega arith)) (one n (omega arith))
    go (suc rounds) n h =
        elim (dec_lt n 10) [
          | yes p ↦ rw (one_digit (suc rounds) n p) (one n p)
          | no p ↦ rw (more_digits rounds n (omega arith)) (more n (digits rounds (n / 10)) (omega arith) (go rounds (n / 10) (omega arith)))
        ]

-- ---- its laws
read_append : (before : ℕ) (ds : List ℕ) (d : ℕ) → read_on before (ds ++ (d ∷ [])) ≡ 10 * read_on before ds + (d - 48)
unfolding read_on
read_append before [] d = refl
read_append before (e ∷ ds) d = read_append (10 * before + (e - 48)) ds d

-- reading the digits gives the number back
pub read_back : (n : ℕ) → number_in (decimal n) ≡ n
unfolding number_in read_on
read_back =
    by_digits (λ n ds. read_on 0 ds ≡ n) one
    (λ n ds h e. read_append 0 ds (digit (n % 10)) ∙ omega (arith, e))
  where
    one : (n : ℕ) → n < 10 → read_on 0 (digit n ∷ []) ≡ n
    one n h = omega arith

-- a byte from `0` to `9`
abbrev pub IsDigit : ℕ → Type 0
IsDigit d = (48 ≤ d) × (d ≤ 57)

pub data Digits : List ℕ → Type 0 where
  none : Digits []
  one_more : {d : ℕ} {ds : List ℕ} → IsDigit d → Digits ds → Digits (d ∷ ds)

digits_append : {ds : List ℕ} {d : ℕ} → Digits ds → IsDigit d → Digits (ds ++ (d ∷ []))
digits_append none h = one_more h none
digits_append (one_more i r) h = one_more i (digits_append r h)

pub decimal_digits : (n : ℕ) → Digits (decimal n)
decimal_digits =
    by_digits (λ n ds. Digits ds) (λ n h. one_more (omega arith, omega arith) none)
    (λ n ds h r. digits_append r (omega arith, omega arith))

-- there is a first digit, and it is 0 only where the number is
pub no_leading_zero : (n : ℕ) → (1 ≤ length (decimal n)) × (at (decimal n) 0 ≡ 48 → n ≡ 0)
no_leading_zero = by_digits (λ n ds. (1 ≤ length ds) × (at ds 0 ≡ 48 → n ≡ 0)) one more
  where
    one : (n : ℕ) → n < 10 → (1 ≤ length (digit n ∷ [])) × (at (digit n ∷ []) 0 ≡ 48 → n ≡ 0)
    one n h = (omega arith, λ e. omega arith)

    more : (n : ℕ) (ds : List ℕ) → 10 ≤ n → (1 ≤ length ds) × (at ds 0 ≡ 48 → n / 10 ≡ 0)
        → (1 ≤ length (ds ++ (digit (n % 10) ∷ []))) × (at (ds ++ (digit (n % 10) ∷ [])) 0 ≡ 48 → n ≡ 0)
    more n ds h r = (
      omega (arith, length-append ds (digit (n % 10) ∷ []), r.0),
      λ e. let z = r.1 (sym (get_or-append ds (digit (n % 10) ∷ []) 0 0 r.0) ∙ e) in absurd (omega arith),
    )

-- two numbers with the same digits are the same
pub decimal_apart : (n m : ℕ) → decimal n ≡ decimal m → n ≡ m
decimal_apart n m e = sym (read_back n) ∙ ap number_in e ∙ read_back m

-- a number below a power of ten has at most that many digits
pub few_digits : (k n : ℕ) → n < 10 ^ suc k → length (decimal n) ≤ suc k
few_digits zero n h = omega (arith, ap length (decimal_one n h))
few_digits (suc k) n h =
    elim (dec_lt n 10) [
      | yes p ↦ omega (arith, ap length (decimal_one n p))
      | no p ↦
          omega (
            arith,
            ap length (decimal_more n (omega arith)),
            length-append (decimal (n / 10)) (digit (n % 10) ∷ []),
            few_digits k (n / 10) (omega (arith, pow-suc 10 (suc k))),
          )
    ]
