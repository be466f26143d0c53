-- Where a process stands after a firing: the next position of its round, the last going to the first.
-- Assumes nothing.
use Rattle.std.specs.Prelude.{◌≡◌, ℕ, suc, ◌<◌, ◌≢◌, ◌==◌}
use Rattle.std.proofs.Common.{arith, eq-eqb, ne_eqb}
use Rattle.std.proofs.lemmas.Bool.{eqb-false}
use Rattle.loops.specs.Choice.{if_true, if_false}
use Rattle.machine.specs.Calls.{next_position}
use Rattle.machine.specs.ByTest.{if_either}

-- the position after a position of a round is one of the round
pub next_position_lt : (position length : ℕ) → position < length → next_position position length < length
unfolding next_position
next_position_lt position length h =
    if_either (◌< length) (suc position == length) 0 (suc position) (λ t. omega arith) (λ t. let d = eqb-false (suc position) length t in omega arith)

-- after any but the last it is one further
pub next_position_on : (position length : ℕ) → suc position ≢ length → next_position position length ≡ suc position
unfolding next_position
next_position_on position length d = if_false (suc position == length) 0 (suc position) (ne_eqb (suc position) length d)

-- after the last it is the first
pub next_position_last : (position length : ℕ) → suc position ≡ length → next_position position length ≡ 0
unfolding next_position
next_position_last position length e = if_true (suc position == length) 0 (suc position) (eq-eqb (suc position) length e)
