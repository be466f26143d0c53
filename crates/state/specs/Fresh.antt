-- A run's state at its beginning (01, "Running a plan"). Definitions only.
-- Assumes nothing.
use Rattle.std.specs.Prelude.{replicate}
use Rattle.state.specs.declared.State.{State}

-- "Fresh: first positions, all closed, nothing marked, all counters 0, turn 0."
unfoldable pub fresh : State
fresh = record { positions = replicate 64 0; opened = replicate 64 0; marks = replicate 32768 0; counters = replicate 64 0; turn = 0 }
