use Rattle.machine.specs.InRange.{read_ok}
use Rattle.machine.proofs.KnownEdge.reading.Goals as goal

pub reading-requires : goal.reading-requires
reading-requires c = read_ok _ _ c.args.self.now.in_shape _ c.args.self.now.known _ _ _ c.sum.ensures c.from.ensures c.b_ends-b.ensures
