-- The number that a call on a plan and a state in shape is turned down with, or 0, out of counts and lists (01, "Turned-down calls",
-- in its order). Definitions only.
-- Assumes nothing.
use Rattle.std.specs.Prelude.{List, Bool, false, ℕ, eqb, leb}
use Rattle.loops.specs.Choice.{at, if}
use Rattle.rows.specs.Lists.{spot, row_left}

-- edge e is marked for process p
unfoldable pub marked_in : List ℕ → ℕ → ℕ → ℕ → Bool
marked_in marks edges p e = if (leb edges e) false (eqb (at marks (spot p e)) 1)

-- "20 unknown process; 21 open on an open process"
unfoldable pub open_number : ℕ → List ℕ → ℕ → ℕ
open_number processes opened p = if (leb processes p) 20 (if (eqb (at opened p) 0) 0 21)

-- "20 unknown process; 22 look or fire on a closed one; 23 look at an edge that isn't marked for it"
unfoldable pub look_number : ℕ → ℕ → List ℕ → List ℕ → ℕ → ℕ → ℕ
look_number processes edges opened marks p e =
    if (leb processes p) 20 (if (eqb (at opened p) 0) 22 (if (marked_in marks edges p e) 0 23))

-- "20 unknown process; 22 look or fire on a closed one; 24 fire with marks left"
unfoldable pub fire_number : ℕ → List ℕ → List ℕ → ℕ → ℕ
fire_number processes opened marks p = if (leb processes p) 20 (if (eqb (at opened p) 0) 22 (if (eqb (row_left marks p) 0) 0 24))

-- "code (0 open, 1 look, 2 fire) … Code above 2 is refused with 26"
unfoldable pub call_number : ℕ → ℕ → List ℕ → List ℕ → ℕ → ℕ → ℕ → ℕ
call_number processes edges opened marks code p e =
    if (eqb code 0) (open_number processes opened p)
    (if (eqb code 1) (look_number processes edges opened marks p e) (if (eqb code 2) (fire_number processes opened marks p) 26))
