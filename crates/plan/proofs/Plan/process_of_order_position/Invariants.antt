use Rattle.std.proofs.Common.{◌≤◌, ◌*◌}
use Rattle.loops.specs.Choice.{at}
use Rattle.loops.specs.Sum.{Sum}
use Rattle.plan.specs.Tests.{ends_past}
use Rattle.loops.specs.First.{First}
use Rattle.plan.proofs.Plan.process_of_order_position.Given as goal

abbrev pub invariant-loop-p : goal.invariant-loop-p
invariant-loop-p l = First (ends_past l.self.lengths l.i) l.self.processes l.p × Sum (at l.self.lengths) l.self.processes l.p l.end × (l.end ≤ 65535 * l.p)
