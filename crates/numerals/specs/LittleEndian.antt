-- Unsigned little-endian numbers (01, "The plan image"). Definitions only.
-- Assumes nothing.
use Rattle.std.specs.Prelude.{List, ℕ, ◌+◌, ◌*◌}
use Rattle.loops.specs.Choice.{at}

-- "Unsigned little-endian numbers": of two bytes at an offset, the lower first
unfoldable pub two_bytes : List ℕ → ℕ → ℕ
two_bytes s i = at s i + 256 * at s (i + 1)

-- "Unsigned little-endian numbers": of four bytes at an offset, the lower two first
unfoldable pub four_bytes : List ℕ → ℕ → ℕ
four_bytes s i = two_bytes s i + 65536 * two_bytes s (i + 2)
