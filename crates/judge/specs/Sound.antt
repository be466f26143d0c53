-- What an accepted plan is: it is in shape, its processes are processes, and C0 to C4 hold. Definitions only.
-- Assumes nothing.
use Rattle.plan.specs.declared.Plan.{Plan}
use Rattle.plan.specs.Faults.{InShape}
use Rattle.plan.specs.Value.{HasProcesses}
use Rattle.judge.specs.Conditions.{C0, C1, C2, C3, C4}

-- the plan has its processes, and Lamport's conditions hold
pub record Upheld (pl : Plan) : Type 0 where
  pub processes : HasProcesses pl
  pub c0 : C0 pl
  pub c1 : C1 pl
  pub c2 : C2 pl
  pub c3 : C3 pl
  pub c4 : C4 pl

-- and it is in shape
pub record Sound (pl : Plan) : Type 0 where
  pub shape : InShape pl
  pub upheld : Upheld pl
