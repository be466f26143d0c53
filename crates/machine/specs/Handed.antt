-- What is worked out of an edge's two ends. Definitions only.
-- Assumes nothing.
use Rattle.std.specs.Prelude.{◌≡◌, ℕ, ◌<◌}
use Rattle.loops.specs.Choice.{at}
use Rattle.plan.specs.declared.Plan.{Plan}
use Rattle.formula.specs.declared.Ends.{Ends}
use Rattle.state.specs.declared.State.{State}
use Rattle.machine.specs.Calls.{b_of}

-- b at an edge's ends
pub record EndsAre (pl : Plan) (st : State) (e : ℕ) (b : Ends) : Type 0 where
  pub end_is : b.end ≡ b_of pl st (at pl.destination e)
  pub source_is : b.source ≡ b_of pl st (at pl.source e)
  pub end_lt : b.end < pl.modulus
  pub source_lt : b.source < pl.modulus
