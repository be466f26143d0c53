-- The calls keep the lengths of the state's lists.
-- Assumes nothing.
use Rattle.std.proofs.Common.{◌∙◌}
use Rattle.std.specs.Prelude.{ℕ, ◌*◌}
use Rattle.std.proofs.Math.ListN.{length-set}
use Rattle.loops.specs.Choice.{at, one_if}
use Rattle.loops.specs.Row.{stored_length}
use Rattle.plan.specs.declared.Plan.{Plan}
use Rattle.formula.specs.Lists.{raised_in}
use Rattle.rows.specs.Lists.{spot}
use Rattle.state.specs.declared.State.{State}
use Rattle.machine.specs.States.{next_node, Sized}
use Rattle.machine.specs.Calls.{to_see, opened_state, with_marks, found_state, fired_state}

module _ (pl : Plan) (st : State) (sized : Sized st) where
  -- an open
  pub open_sized : (p : ℕ) → Sized (opened_state pl st p)
  unfolding opened_state
  open_sized p =
      record {
        positions_length = sized.positions_length;
        opened_length = length-set st.opened p 1 ∙ sized.opened_length;
        marks_length = stored_length (λ e. one_if (to_see pl (next_node pl st p) e)) (512 * p) st.marks pl.edges ∙ sized.marks_length;
        counters_length = sized.counters_length;
      }

  -- a look that finds
  pub found_sized : (p e : ℕ) → Sized (found_state st p e)
  unfolding found_state with_marks
  found_sized p e =
      record {
        positions_length = sized.positions_length;
        opened_length = sized.opened_length;
        marks_length = length-set st.marks (spot p e) 0 ∙ sized.marks_length;
        counters_length = sized.counters_length;
      }

  -- a look that waits
  pub wait_sized : Sized (with_marks st st.marks)
  unfolding with_marks
  wait_sized =
      record {
        positions_length = sized.positions_length;
        opened_length = sized.opened_length;
        marks_length = sized.marks_length;
        counters_length = sized.counters_length;
      }

  -- a fire
  pub fire_sized : (p v : ℕ) → Sized (fired_state pl st p v)
  unfolding fired_state raised_in
  fire_sized p v =
      record {
        positions_length = length-set st.positions p _ ∙ sized.positions_length;
        opened_length = length-set st.opened p 0 ∙ sized.opened_length;
        marks_length = sized.marks_length;
        counters_length = length-set st.counters (at pl.counter v) _ ∙ sized.counters_length;
      }
