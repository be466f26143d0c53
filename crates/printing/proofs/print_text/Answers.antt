-- The buffer is never too short.
use Rattle.std.proofs.Common.{arith, ap}
use Rattle.transcript.specs.Room.{never_short}
use Rattle.transcript.specs.Text.{printed_as}
use Rattle.printing.proofs.print_text.Goals as goal

pub unreachable-requires : goal.unreachable-requires
unreachable-requires g c = never_short _ _ _ _ c.transcript.ensures (omega arith) _ (ap printed_as c.in_default.is)
