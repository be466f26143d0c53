use Rattle.std.proofs.Common.{sym, ◌∙◌}
use Rattle.machine.specs.InRange.{plan_ok}
use Rattle.calls.proofs.both_fit.Goals as goal

pub state_fits-requires : goal.state_fits-requires
state_fits-requires c = plan_ok _ (sym c.fits.ensures ∙ c.if-fits.true)
