use Rattle.machine.specs.InRange.{raise_ok}
use Rattle.machine.proofs.Shaped.fire.Goals as goal

pub raise-requires : goal.raise-requires
raise-requires c = raise_ok _ _ c.args.self.now.in_shape c.requires.0 _ c.requires.1 _ _ c.from.ensures c.next_node-node.ensures
