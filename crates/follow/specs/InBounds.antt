-- Calls that name a process and an edge of the plan have numbers that fit 32 bits.
-- Assumes nothing.
use mathlib.Core.List.{List, [], ◌∷◌, ◌++◌}
use native.Mathlib.Omega.{arith}
use Rattle.plan.specs.declared.Plan.{Plan}
use Rattle.plan.specs.Faults.{CountsFit}
use Rattle.machine.specs.Runs.{Call}
use Rattle.follow.specs.Bounds.{InBounds, AllInBounds, AllFit32}

module _ (pl : Plan) where
  -- of two lists of calls
  pub bounds_append : (cs ds : List Call) → AllInBounds pl cs → AllInBounds pl ds → AllInBounds pl (cs ++ ds)
  unfolding AllInBounds
  bounds_append [] ds a b = b
  bounds_append (c ∷ cs) ds a b = (a.0, bounds_append cs ds a.1 b)

  module _ (counts : CountsFit pl) where
    -- what is in bounds fits 32 bits: there are at most 64 processes and 512 edges
    pub bounds_fit : (cs : List Call) → AllInBounds pl cs → AllFit32 cs
    unfolding AllInBounds AllFit32
    bounds_fit [] a = tt
    bounds_fit (c ∷ cs) a =
        let k : InBounds pl c = a.0 in
        (record { code_fits = omega (arith, k.code_most); process_fits = omega (arith, k.process_lt); edge_fits = omega (arith, k.edge_lt) }, bounds_fit cs a.1)
