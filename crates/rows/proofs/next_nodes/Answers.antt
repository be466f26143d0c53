use Rattle.std.proofs.Common.{rules}
use Rattle.loops.specs.Table.{fills}
use Rattle.rows.proofs.next_nodes.Goals as goal

pub loop-p-init : goal.loop-p-init
loop-p-init c = search (rules, fills)
