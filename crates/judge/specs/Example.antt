-- Plan P and its synchronising edges, by computation.
-- Assumes nothing.
use Rattle.std.specs.Prelude.{◌≡◌, refl, true, false, [], ◌∷◌}
use Rattle.loops.specs.Choice.{if}
use Rattle.loops.specs.First.{first, first_of}
use Rattle.loops.specs.Sum.{sum}
use Rattle.plan.specs.declared.Plan.{Plan}
use Rattle.plan.specs.Value.{base}
use Rattle.plan.specs.Tests.{stands_at, order_position, ends_past, process_at, home_of, home, synchronises}

-- 01: "edges 0-1:0, 1-0:1, 1-2:0, 2-3:0, 3-0:3, 3-2:1"
unfoldable pub P : Plan
P =
    record {
      nodes = 4;
      processes = 2;
      edges = 6;
      counters = 2;
      modulus = 4;
      q = 1;
      lengths = 2 ∷ 2 ∷ [];
      order = 0 ∷ 1 ∷ 2 ∷ 3 ∷ [];
      counter = 0 ∷ 0 ∷ 1 ∷ 1 ∷ [];
      increment = 0 ∷ 1 ∷ 0 ∷ 1 ∷ [];
      source = 0 ∷ 1 ∷ 1 ∷ 2 ∷ 3 ∷ 3 ∷ [];
      destination = 1 ∷ 0 ∷ 2 ∷ 3 ∷ 0 ∷ 2 ∷ [];
      tokens = 0 ∷ 1 ∷ 0 ∷ 0 ∷ 3 ∷ 1 ∷ [];
    }

-- edges 1-2 and 3-0 are the synchronising ones
pub synchronising_of_P : (synchronises P 0 ≡ false) × (synchronises P 2 ≡ true) × (synchronises P 3 ≡ false) × (synchronises P 4 ≡ true)
unfolding P if first first_of sum base stands_at order_position ends_past process_at home_of home synchronises
synchronising_of_P = (refl, refl, refl, refl)
