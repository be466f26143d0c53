-- Arithmetic modulo N, 01's test of an edge and 01's token reading, on numbers. Definitions only.
-- `n` is the modulus N, and `q` the sum Q that the counters of both ends of an edge share. Assumes nothing.
use Rattle.std.specs.Prelude.{◌≡◌, Bool, not, ℕ, ◌+◌, ◌-◌, ◌*◌, ◌/◌, ◌%◌, ◌<◌, eqb}

-- 01, C4: "the modulus N is a multiple of Q".
abbrev pub Divides : (q n : ℕ) → Type 0
Divides q n = (m : ℕ) × (n ≡ q * m)

-- 01, C4: "N exceeds Q times (its tokens plus the tokens on the emptiest route from n to m)", for the `back` tokens of any such route.
abbrev pub Exceeds : (q n tokens back : ℕ) → Type 0
Exceeds q n tokens back = q * (tokens + back) < n

-- 000: "the smallest multiple of Q that is greater than or equal to i".
unfoldable pub rounded_up : (q i : ℕ) → ℕ
rounded_up q i = q * ((i + (q - 1)) / q)

-- 000: "subtraction modulo N", (a - b) % N, also where a is less than b.
unfoldable pub minus_modulo : (n a b : ℕ) → ℕ
minus_modulo n a b = (a + (n - b % n)) % n

-- 01: "let b(x) be the counter of x less the increments to that counter by nodes earlier in x's process round, modulo N".
abbrev pub less_earlier : (n counter earlier : ℕ) → ℕ
less_earlier n counter earlier = minus_modulo n counter earlier

-- 01: "rounded b(n) minus rounded b(m), modulo N, differs from Q times the starting tokens, modulo N" (000, formula 14).
unfoldable pub finds : (q n tokens b_end b_source : ℕ) → Bool
finds q n tokens b_end b_source = not (eqb (minus_modulo n (rounded_up q b_end) (rounded_up q b_source)) (q * tokens % n))

-- 01: "rounded b(m) minus rounded b(n), modulo N, divided by Q and rounded down, plus the starting tokens" (000, formula 15).
unfoldable pub reading_sum : (q n tokens b_source b_end : ℕ) → ℕ
reading_sum q n tokens b_source b_end = minus_modulo n (rounded_up q b_source) (rounded_up q b_end) / q + tokens

-- 01: that sum "modulo N", as 000 prints it.
unfoldable pub reading_printed : (q n tokens b_source b_end : ℕ) → ℕ
reading_printed q n tokens b_source b_end = reading_sum q n tokens b_source b_end % n

-- 02, request 2: "take 01's sum modulo N divided by Q".
unfoldable pub reading_mended : (q n tokens b_source b_end : ℕ) → ℕ
reading_mended q n tokens b_source b_end = reading_sum q n tokens b_source b_end % (n / q)
