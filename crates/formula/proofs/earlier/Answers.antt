use Rattle.std.proofs.Common.{rules}
use Rattle.plan.specs.Tests.{home_of}
use Rattle.formula.specs.Placed.{starts_before, seats_ok}
use Rattle.formula.proofs.earlier.Goals as goal

pub shares-requires : goal.shares-requires
unfolding home_of
shares-requires c = search (rules, starts_before, seats_ok)
