-- What loops compute, and the choices and lists that they are made of. Definitions only.
-- Assumes nothing.
use Rattle.std.specs.Prelude.{List, [], ◌∷◌, ◌++◌, Bool, true, false, ℕ, zero, suc, ◌+◌, ◌-◌, get_or, set, replicate, Option, Some, None, ltb}

-- what stands at a place of a list, and 0 past its end
abbrev pub at : List ℕ → ℕ → ℕ
at l k = get_or l k 0

-- a where the test is true, else b
unfoldable pub if : {A : Type 0} → Bool → A → A → A
if true a b = a
if false a b = b

-- both tests are true
unfoldable pub both : Bool → Bool → Bool
both a b = if a b false

-- one of the tests is true
unfoldable pub either : Bool → Bool → Bool
either a b = if a true b

-- 1 where the test is true, else 0
unfoldable pub one_if : Bool → ℕ
one_if t = if t 1 0

-- the lowest of i, i + 1, .. at which f is true, of m numbers; where there is none, i + m
unfoldable pub first_of : (ℕ → Bool) → ℕ → ℕ → ℕ
first_of f i zero = i
first_of f i (suc m) = if (f i) i (first_of f (suc i) m)

-- the lowest number below n at which f is true, or n
unfoldable pub first : (ℕ → Bool) → ℕ → ℕ
first f n = first_of f 0 n

-- the same as a find: nothing where there is none
unfoldable pub lowest : (ℕ → Bool) → ℕ → Option ℕ
lowest f n = if (ltb (first f n) n) (Some (first f n)) None

-- is f true at one of i, i + 1, .. of m numbers
unfoldable pub any_of : (ℕ → Bool) → ℕ → ℕ → Bool
any_of f i zero = false
any_of f i (suc m) = if (f i) true (any_of f (suc i) m)

-- is f true at a number below n
unfoldable pub any : (ℕ → Bool) → ℕ → Bool
any f n = any_of f 0 n

-- the sum of f at the numbers below n
unfoldable pub sum : (ℕ → ℕ) → ℕ → ℕ
sum f zero = 0
sum f (suc n) = sum f n + f n

-- what n turns make of a
unfoldable pub fold : {A : Type 0} → (ℕ → A → A) → A → ℕ → A
fold f a zero = a
fold f a (suc n) = f n (fold f a n)

-- the list l with f 0, f 1, .. f (n - 1) stored from `base` on
unfoldable pub stored : (ℕ → ℕ) → ℕ → List ℕ → ℕ → List ℕ
stored f base l zero = l
stored f base l (suc n) = set (stored f base l n) (base + n) (f n)

-- f 0, f 1, .. f (n - 1)
unfoldable pub entries : (ℕ → ℕ) → ℕ → List ℕ
entries f zero = []
entries f (suc n) = entries f n ++ (f n ∷ [])

-- the same with 0 past them, `size` numbers in all
unfoldable pub padded : (ℕ → ℕ) → ℕ → ℕ → List ℕ
padded f size n = entries f n ++ replicate (size - n) 0
