-- What stands in the plan value of an image: exactly the image's numbers, with 0 past the counts.
-- Assumes nothing.
use Rattle.std.specs.Prelude.{◌≡◌, List, ℕ, ◌+◌, ◌*◌, ◌≤◌, ◌<◌}
use Rattle.loops.specs.Choice.{at}
use Rattle.loops.specs.Table.{padded, padded_at, padded_past}
use Rattle.numerals.specs.LittleEndian.{two_bytes}
use Rattle.image.specs.Image.{entry, nodes_in, processes_in, edges_in, order_from, nodes_from, edges_from, tables_of, plan_of}

-- a table holds n numbers of the image, one every `step` bytes from `start` on, and 0 past them
pub record Holds (s : List ℕ) (start step n : ℕ) (table : List ℕ) : Type 0 where
  pub within : (k : ℕ) → k < n → at table k ≡ two_bytes s (start + step * k)
  pub past : (k : ℕ) → n ≤ k → at table k ≡ 0

holds : (s : List ℕ) (start step size n : ℕ) → Holds s start step n (padded (entry s start step) size n)
unfolding entry
holds s start step size n = record { within = padded_at (λ k. two_bytes s (start + step * k)) size n; past = padded_past (λ k. two_bytes s (start + step * k)) size n }

module _ (s : List ℕ) where
  pub record TablesHold : Type 0 where
    pub lengths : Holds s 36 2 (processes_in s) (plan_of s).lengths
    pub order : Holds s (order_from s) 2 (nodes_in s) (plan_of s).order
    pub counter : Holds s (nodes_from s) 4 (nodes_in s) (plan_of s).counter
    pub increment : Holds s (nodes_from s + 2) 4 (nodes_in s) (plan_of s).increment
    pub source : Holds s (edges_from s) 6 (edges_in s) (plan_of s).source
    pub destination : Holds s (edges_from s + 2) 6 (edges_in s) (plan_of s).destination
    pub tokens : Holds s (edges_from s + 4) 6 (edges_in s) (plan_of s).tokens

  pub tables_hold : TablesHold
  unfolding tables_of plan_of
  tables_hold =
      record {
        lengths = holds s 36 2 64 (processes_in s);
        order = holds s (order_from s) 2 64 (nodes_in s);
        counter = holds s (nodes_from s) 4 64 (nodes_in s);
        increment = holds s (nodes_from s + 2) 4 64 (nodes_in s);
        source = holds s (edges_from s) 6 512 (edges_in s);
        destination = holds s (edges_from s + 2) 6 512 (edges_in s);
        tokens = holds s (edges_from s + 4) 6 512 (edges_in s);
      }
