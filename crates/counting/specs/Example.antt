-- Plan P with increments 0,2,0,2 and N 8 after three producer rounds, by computation: edge 3-0 is empty, and the printed reading is 4.
-- Assumes nothing.
use Rattle.std.specs.Prelude.{◌≡◌, refl, false, ℕ, zero, suc}
use Rattle.std.proofs.Common.{arith}
use Rattle.loops.specs.Sum.{sum}
use Rattle.counting.specs.Modular.{rounded_up, minus_modulo, finds, reading_sum, reading_printed}
use Rattle.counting.specs.Process.{Counted_node, b_of}

-- the increments of either process: 0, then 2
unfoldable pub increments : ℕ → ℕ
increments zero = 0
increments (suc zero) = 2
increments (suc (suc j)) = 0

-- node 0, the edge's end: next in its process after three rounds, its counter at 6
unfoldable pub node_0 : Counted_node 2 8
unfolding sum increments
node_0 = record {
  increment = increments;
  length = 2;
  rounds = 3;
  position = 0;
  seat = 0;
  counter = 6;
  firings = 3;
  full = refl;
  position_lt = omega arith;
  seat_lt = omega arith;
  counted = refl;
  has_fired = refl;
}

-- node 3, the edge's source: second in its process, which has not moved
unfoldable pub node_3 : Counted_node 2 8
unfolding sum increments
node_3 = record {
  increment = increments;
  length = 2;
  rounds = 0;
  position = 0;
  seat = 1;
  counter = 0;
  firings = 0;
  full = refl;
  position_lt = omega arith;
  seat_lt = omega arith;
  counted = refl;
  has_fired = refl;
}

-- 01's printed reading of the edge, which started with 3 tokens
pub printed_is_four : reading_printed 2 8 3 (b_of node_3) (b_of node_0) ≡ 4
unfolding reading_printed reading_sum minus_modulo rounded_up sum increments node_0 node_3
printed_is_four = refl

-- the bound is needed: with N 6, which is 2 * 3 and not above it, a fresh plan's look at this edge waits where 3 tokens stand
pub bound_needed : finds 2 6 3 0 0 ≡ false
unfolding finds minus_modulo rounded_up
bound_needed = refl
