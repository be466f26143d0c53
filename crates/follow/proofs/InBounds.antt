-- The calls of a drive name a process and edges of the plan.
-- Assumes nothing.
use mathlib.Core.List.{List, [], ◌∷◌, ◌++◌}
use Rattle.std.specs.Prelude.{ℕ, ◌<◌, eqb}
use native.Mathlib.Omega.{arith}
use Rattle.std.proofs.Math.Decide.{dec_lt}
use Rattle.loops.specs.Choice.{at}
use Rattle.net.specs.Graph.{firings}
use Rattle.net.specs.Counts.{one_if_same_self}
use Rattle.plan.specs.declared.Plan.{Plan}
use Rattle.plan.specs.Faults.{CountsFit}
use Rattle.state.specs.declared.State.{State}
use Rattle.machine.specs.Runs.{last_state}
use Rattle.machine.specs.ByTest.{if_either}
use Rattle.machine.specs.KeptByCalls.{Kept}
use Rattle.follow.specs.Bounds.{InBounds, AllInBounds}
use Rattle.follow.specs.InBounds.{bounds_append}
use Rattle.follow.specs.DriveCalls.{to_open, to_fire, opening, looks, drive, YetToSee}

module _ (pl : Plan) where
  module _ (counts : CountsFit pl) where
    module _ (p : ℕ) (h : p < pl.processes) where
      -- an open and a fire, which do not use their edge, name edge 0
      open_bounds : InBounds pl (to_open p)
      open_bounds = record { code_most = omega arith; process_lt = h; edge_lt = omega arith }

      fire_bounds : InBounds pl (to_fire p)
      fire_bounds = record { code_most = omega arith; process_lt = h; edge_lt = omega arith }

      -- looks at edges of the plan
      looks_bounds : (es : List ℕ) → ((e : ℕ) → 0 < firings e es → e < pl.edges) → AllInBounds pl (looks p es)
      unfolding AllInBounds looks firings
      looks_bounds [] known = tt
      looks_bounds (e ∷ es) known = (
        record { code_most = omega arith; process_lt = h; edge_lt = let k = known e (omega (arith, one_if_same_self e)) in omega arith },
        looks_bounds es (λ g some. known g (omega arith)),
      )

      -- an edge yet to see is one of the plan
      module _ (st : State) (es : List ℕ) (kept : Kept pl (last_state pl st (opening st p))) (l : YetToSee pl st p es) where
        edge_known : (e : ℕ) → 0 < firings e es → e < pl.edges
        edge_known e some =
            elim (dec_lt e 512) [
              | yes k ↦ ((kept.parts.marks p (omega arith) e k).means (λ z. omega (arith, l.each e k))).synchronising.known
              | no k ↦ absurd (omega (arith, l.past e (omega arith)))
            ]

        -- every call of a drive is in bounds
        pub drive_bounds : AllInBounds pl (drive st p es)
        unfolding AllInBounds drive opening
        drive_bounds =
            bounds_append pl (opening st p) (looks p es ++ (to_fire p ∷ []))
            (if_either (AllInBounds pl) (eqb (at st.opened p) 0) (to_open p ∷ []) [] (λ t. (open_bounds, tt)) (λ t. tt))
            (bounds_append pl (looks p es) (to_fire p ∷ []) (looks_bounds es edge_known) (fire_bounds, tt))
