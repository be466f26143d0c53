-- Calls whose numbers are those of a plan. Definitions only.
-- Assumes nothing.
use Rattle.std.specs.Prelude.{List, [], ◌∷◌, ◌≤◌, ◌<◌, ◌^◌}
use Rattle.plan.specs.declared.Plan.{Plan}
use Rattle.machine.specs.Runs.{Call}

-- 01: "calls of four bytes: code (0 open, 1 look, 2 fire), process, edge": a code that 01 names, a process and an edge of the plan
pub record InBounds (pl : Plan) (c : Call) : Type 0 where
  pub code_most : c.code ≤ 2
  pub process_lt : c.process < pl.processes
  pub edge_lt : c.edge < pl.edges

-- each call of a list is such
unfoldable pub AllInBounds : Plan → List Call → Type 0
AllInBounds pl [] = Unit {0}
AllInBounds pl (c ∷ cs) = InBounds pl c × AllInBounds pl cs

-- a call that C can make: its three numbers fit 32 bits
pub record Fits32 (c : Call) : Type 0 where
  pub code_fits : c.code < 2 ^ 32
  pub process_fits : c.process < 2 ^ 32
  pub edge_fits : c.edge < 2 ^ 32

-- each call of a list is such
unfoldable pub AllFit32 : List Call → Type 0
AllFit32 [] = Unit {0}
AllFit32 (c ∷ cs) = Fits32 c × AllFit32 cs
