use Rattle.loops.specs.Table.{fill_begin}
use Rattle.image.proofs.table_of.Goals as goal

pub loop-k-init : goal.loop-k-init
loop-k-init g c = fill_begin _ _ _
