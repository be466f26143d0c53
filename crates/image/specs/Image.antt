-- The plan image (01, "The plan image"): its numbers and the plan value that they give. Definitions only.
-- Assumes nothing.
use Rattle.std.specs.Prelude.{◌≡◌, List, ℕ, ◌+◌, ◌*◌, length}
use Rattle.loops.specs.Table.{padded}
use Rattle.numerals.specs.LittleEndian.{two_bytes, four_bytes}
use Rattle.plan.specs.declared.Plan.{Plan}
use Rattle.plan.specs.Value.{with_q, counter_sum}
use Rattle.image.specs.Offsets.{order_start, node_start, edge_start, total}

-- entry k of a table of two-byte numbers at a place, one every `step` bytes
unfoldable pub entry : List ℕ → ℕ → ℕ → ℕ → ℕ
entry s start step k = two_bytes s (start + step * k)

-- "nodes at 2, processes at 4, edges at 6": the counts by which the tables are laid out
abbrev pub nodes_in : List ℕ → ℕ
nodes_in s = two_bytes s 2

abbrev pub processes_in : List ℕ → ℕ
processes_in s = two_bytes s 4

abbrev pub edges_in : List ℕ → ℕ
edges_in s = two_bytes s 6

-- "The tables follow the header in that order without gaps": where each begins, and the total, by the image's counts
abbrev pub order_from : List ℕ → ℕ
order_from s = order_start (processes_in s)

abbrev pub nodes_from : List ℕ → ℕ
nodes_from s = node_start (processes_in s) (nodes_in s)

abbrev pub edges_from : List ℕ → ℕ
edges_from s = edge_start (processes_in s) (nodes_in s)

abbrev pub total_in : List ℕ → ℕ
total_in s = total (processes_in s) (nodes_in s) (edges_in s)

-- the plan value that the image's numbers give, its tables with 0 past the counts, before any sum: Q is 0
unfoldable pub tables_of : List ℕ → Plan
tables_of s =
    record {
      nodes = nodes_in s;
      processes = processes_in s;
      edges = edges_in s;
      counters = two_bytes s 8;
      modulus = four_bytes s 12;
      q = 0;
      lengths = padded (entry s 36 2) 64 (processes_in s);
      order = padded (entry s (order_from s) 2) 64 (nodes_in s);
      counter = padded (entry s (nodes_from s) 4) 64 (nodes_in s);
      increment = padded (entry s (nodes_from s + 2) 4) 64 (nodes_in s);
      source = padded (entry s (edges_from s) 6) 512 (edges_in s);
      destination = padded (entry s (edges_from s + 2) 6) 512 (edges_in s);
      tokens = padded (entry s (edges_from s + 4) 6) 512 (edges_in s);
    }

-- the plan value that the image's numbers give; Q is counter 0's sum
unfoldable pub plan_of : List ℕ → Plan
plan_of s = with_q (tables_of s) (counter_sum (tables_of s) 0)

-- the offsets and the total are the values that the counts give, and the image is that long
pub record OffsetsFit (s : List ℕ) : Type 0 where
  pub lengths_at : four_bytes s 16 ≡ 36
  pub order_at : four_bytes s 20 ≡ order_from s
  pub nodes_at : four_bytes s 24 ≡ nodes_from s
  pub edges_at : four_bytes s 28 ≡ edges_from s
  pub total_is : four_bytes s 32 ≡ total_in s
  pub length_is : length s ≡ total_in s
