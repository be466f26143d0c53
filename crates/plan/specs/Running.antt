-- The search for the process of an order position, with a running sum of the lengths: what the test of that sum says.
-- Assumes nothing.
use Rattle.std.specs.Prelude.{ℕ, ◌+◌, ◌≤◌, ◌<◌, ◌≡◌, List, true, false}
use Rattle.std.proofs.Common.{sym, arith, lt-ltb, le-ltb}
use Rattle.loops.specs.Choice.{at}
use Rattle.loops.specs.Sum.{Sum, sum}
use Rattle.plan.specs.Value.{base}
use Rattle.plan.specs.Tests.{ends_past}

-- the sum with process p's length is above i: p ends past i
pub ends_here : (lengths : List ℕ) {n p end r : ℕ} (i : ℕ) → Sum (at lengths) n p end → r ≡ at lengths p → i < end + r → true ≡ ends_past lengths i p
unfolding ends_past base sum
ends_here lengths {p = p} i inv e h = sym (lt-ltb i (sum (at lengths) p + at lengths p) (omega arith))

-- it is not: p does not
pub ends_before : (lengths : List ℕ) {n p end r : ℕ} (i : ℕ) → Sum (at lengths) n p end → r ≡ at lengths p → end + r ≤ i → false ≡ ends_past lengths i p
unfolding ends_past base sum
ends_before lengths {p = p} i inv e h = sym (le-ltb i (sum (at lengths) p + at lengths p) (omega arith))
