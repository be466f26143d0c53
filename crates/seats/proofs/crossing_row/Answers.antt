use Rattle.std.proofs.Common.{rules}
use Rattle.loops.specs.Table.{fills}
use Rattle.seats.proofs.crossing_row.Goals as goal

pub loop-e-init : goal.loop-e-init
loop-e-init c = search (rules, fills)
