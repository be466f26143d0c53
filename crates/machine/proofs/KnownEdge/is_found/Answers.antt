use Rattle.machine.specs.InRange.{found_ok}
use Rattle.machine.proofs.KnownEdge.is_found.Goals as goal

pub is_found-requires : goal.is_found-requires
is_found-requires c = found_ok _ _ c.args.self.now.in_shape _ c.args.self.now.known _ _ _ c.sum.ensures c.from.ensures c.b_ends-b.ensures
