-- Tests 2 and 4 of an image, as the program runs them. Definitions only.
-- Assumes nothing.
use Rattle.std.specs.Prelude.{List, Bool, ℕ, eqb, length}
use Rattle.loops.specs.Choice.{both}
use Rattle.numerals.specs.LittleEndian.{two_bytes, four_bytes}
use Rattle.image.specs.Image.{order_from, nodes_from, edges_from, total_in}

-- number 2
unfoldable pub good_format : List ℕ → Bool
good_format s = both (eqb (two_bytes s 0) 1) (eqb (two_bytes s 10) 0)

-- number 4, its second half: the offsets of the node and edge tables, the total and the length
unfoldable pub good_later_offsets : List ℕ → Bool
good_later_offsets s =
    both (eqb (four_bytes s 24) (nodes_from s)) (both (eqb (four_bytes s 28) (edges_from s)) (both (eqb (four_bytes s 32) (total_in s)) (eqb (length s) (total_in s))))

-- number 4
unfoldable pub good_offsets : List ℕ → Bool
good_offsets s = both (eqb (four_bytes s 16) 36) (both (eqb (four_bytes s 20) (order_from s)) (good_later_offsets s))
