use Rattle.machine.specs.InRange.{source_counted, destination_counted}
use Rattle.machine.proofs.KnownEdge.b_ends.Goals as goal

pub b_of-requires : goal.b_of-requires
b_of-requires c = destination_counted _ _ c.args.self.now.in_shape _ c.args.self.now.known _ c.from.ensures

pub b_of-requires-2 : goal.b_of-requires-2
b_of-requires-2 c = source_counted _ _ c.args.self.now.in_shape _ c.args.self.now.known _ c.from-2.ensures
