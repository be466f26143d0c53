-- Where a node's process begins, and the seats before its own: in range.
-- Assumes nothing.
use Rattle.std.specs.Prelude.{◌≡◌, List, ℕ, ◌+◌, ◌-◌, ◌≤◌}
use Rattle.std.proofs.Common.{arith}
use Rattle.loops.specs.First.{first_le}
use Rattle.plan.specs.Value.{base}
use Rattle.plan.specs.Tests.{order_position, process_at, stands_at, ends_past}
use Rattle.plan.specs.Seating.{begins_before}
use Rattle.formula.specs.Lists.{SeatsOk, PlacedOk}

-- the process of an order position, and where it begins
pub home_most : (lengths : List ℕ) (processes i home : ℕ) → home ≡ process_at lengths processes i → processes ≤ 64 → home ≤ 64
unfolding process_at
home_most lengths processes i home e h = omega (arith, first_le (ends_past lengths i) processes)

pub starts_before : (lengths : List ℕ) (processes i home start : ℕ) → home ≡ process_at lengths processes i → start ≡ base lengths home → start ≤ i
starts_before lengths processes i home start e q = omega (arith, begins_before lengths processes i home (omega arith))

-- the seats before a node's own
pub seats_ok : (order : List ℕ) (nodes processes x place start : ℕ) → PlacedOk order nodes processes x → place ≡ order_position order nodes x → start ≤ place
    → SeatsOk order start (place - start)
unfolding order_position
seats_ok order nodes processes x place start ok e h =
    let m : place ≤ nodes = omega (arith, first_le (stands_at order x) nodes) in
    record { within = omega arith; entry_lt = λ j l. ok.order_lt (start + j) (omega arith) }
