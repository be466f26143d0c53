-- A test as a number, as `u16::from` gives it.
-- Assumes nothing.
use Rattle.std.specs.Prelude.{◌≡◌, ℕ, ◌≤◌, Bool, true, false}
use Rattle.std.proofs.Common.{arith}
use Rattle.loops.specs.Choice.{if, one_if}
use mir.Val.{bool_byte}

pub one_is : (t : Bool) (r : ℕ) → r ≡ bool_byte t → r ≡ one_if t
unfolding one_if if
one_is true r e = e
one_is false r e = e

pub one_most : (t : Bool) → one_if t ≤ 1
unfolding one_if if
one_most true = omega arith
one_most false = omega arith
