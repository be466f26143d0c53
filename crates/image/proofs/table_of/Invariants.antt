use Rattle.loops.specs.Table.{Fill}
use Rattle.image.specs.Image.{entry}
use Rattle.image.proofs.table_of.Given as goal

abbrev pub invariant-loop-k : goal.invariant-loop-k
invariant-loop-k g l = Fill (entry l.image l.start l.step) g.row.N l.n l.k l.table
