-- A fresh state holds nothing but 0, in lists of the right lengths.
-- Assumes nothing.
use Rattle.std.specs.Prelude.{◌≡◌, ℕ}
use Rattle.std.proofs.lemmas.List.{length-replicate}
use Rattle.loops.specs.Choice.{at}
use Rattle.loops.specs.Table.{zeros_at}
use Rattle.rows.specs.Lists.{spot}
use Rattle.machine.specs.States.{mark, fresh, Sized}

-- first positions
pub fresh_position : (p : ℕ) → at fresh.positions p ≡ 0
unfolding fresh
fresh_position p = zeros_at 64 p

-- all closed
pub fresh_opened : (p : ℕ) → at fresh.opened p ≡ 0
unfolding fresh
fresh_opened p = zeros_at 64 p

-- all counters 0
pub fresh_counter : (c : ℕ) → at fresh.counters c ≡ 0
unfolding fresh
fresh_counter c = zeros_at 64 c

-- nothing marked
pub fresh_mark : (p e : ℕ) → mark fresh p e ≡ 0
unfolding fresh
fresh_mark p e = zeros_at 32768 (spot p e)

-- the lengths of its lists
pub fresh_sized : Sized fresh
unfolding fresh
fresh_sized =
    record {
      positions_length = length-replicate {A = ℕ} 64 0;
      opened_length = length-replicate {A = ℕ} 64 0;
      marks_length = length-replicate {A = ℕ} 32768 0;
      counters_length = length-replicate {A = ℕ} 64 0;
    }
