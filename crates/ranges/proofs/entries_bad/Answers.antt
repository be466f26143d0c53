use Rattle.std.proofs.Common.{◌≡◌, ℕ, List, Bool, true, false, refl, ltb, leb, arith, rules}
use Rattle.loops.specs.Choice.{at, one_if, if}
use Rattle.loops.specs.Sum.{sum_begin, sum_more, sum_over}
use Rattle.ranges.specs.Range.{out_of_range}
use mir.Val.{bool_byte}
use Rattle.ranges.proofs.entries_bad.Goals as goal

-- a test as a number, as the code writes it
one_is : (t : Bool) → bool_byte t ≡ one_if t
unfolding one_if if
one_is true = refl
one_is false = refl

-- an entry whose limit and value are as they stand there
bad_is : (f : ℕ → ℕ) (e : List ℕ) (count k limit entry r : ℕ) (t : Bool) → r ≡ bool_byte t
    → t ≡ if (ltb k count) (leb limit entry) (ltb 0 entry) → limit ≡ f k → entry ≡ at e k → r ≡ one_if (out_of_range f count e k)
unfolding out_of_range
bad_is f e count k limit entry r t a b p q = rw (a, one_is, b, p, q)

pub loop-k-init : goal.loop-k-init
loop-k-init g c = (λ f e p q. sum_begin _ 64, omega arith)

pub loop-k-preserved : goal.loop-k-preserved
loop-k-preserved g c = (
  λ f e p q. sum_more (c.loop-k.invariant.0 f e p q) (omega arith)
      (bad_is f e _ _ _ _ _ _ c.from-bad.ensures c.is_bad.ensures (p _ _ (omega arith) c.limit.ensures) (q _ _ (omega arith) c.entry.ensures)),
  search rules,
)

pub returns : goal.returns
returns g c = λ f e p q. sum_over (c.loop-k.invariant.0 f e p q) (omega arith)
