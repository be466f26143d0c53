-- What the calls do to the marks of a state.
-- Assumes nothing.
use Rattle.std.specs.Prelude.{◌≡◌, ℕ, ◌*◌, ◌<◌, ◌≤◌, ◌≢◌}
use Rattle.std.proofs.Common.{arith}
use Rattle.std.proofs.Math.Seq.{get_or-set_same, get_or-set_other}
use Rattle.loops.specs.Choice.{one_if}
use Rattle.loops.specs.Row.{stored_at, stored_other}
use Rattle.plan.specs.declared.Plan.{Plan}
use Rattle.rows.specs.Lists.{spot}
use Rattle.state.specs.declared.State.{State}
use Rattle.machine.specs.States.{mark, next_node, Sized}
use Rattle.machine.specs.Calls.{to_see, opened_state, with_marks, found_state}

-- two marks of one place are one mark
pub spot_apart : (r e p f : ℕ) → e < 512 → f < 512 → spot r e ≡ spot p f → (r ≡ p) × (e ≡ f)
spot_apart r e p f h k z = (omega arith, omega arith)

-- every mark has its place
pub spot_lt : (p e : ℕ) → p < 64 → e < 512 → spot p e < 32768
spot_lt p e h k = omega arith

module _ (pl : Plan) (st : State) (sized : Sized st) (p : ℕ) where
  module _ (few : pl.edges ≤ 512) where
    -- the edges to see are marked
    pub open_mark : (e : ℕ) → p < 64 → e < pl.edges → mark (opened_state pl st p) p e ≡ one_if (to_see pl (next_node pl st p) e)
    unfolding opened_state
    open_mark e h k = stored_at (λ e. one_if (to_see pl (next_node pl st p) e)) (512 * p) st.marks pl.edges e k (omega (arith, sized.marks_length))

    -- other marks stay
    pub open_mark_other : (r e : ℕ) → e < 512 → (r ≡ p → pl.edges ≤ e) → mark (opened_state pl st p) r e ≡ mark st r e
    unfolding opened_state
    open_mark_other r e h d =
        stored_other (λ e. one_if (to_see pl (next_node pl st p) e)) (512 * p) st.marks pl.edges (spot r e)
        (λ j l z. let t = spot_apart r e p j h (omega arith) z in omega (arith, d t.0, t.1))

  -- a found edge's mark goes
  pub found_mark : (e : ℕ) → p < 64 → e < 512 → mark (found_state st p e) p e ≡ 0
  unfolding found_state with_marks
  found_mark e h k = get_or-set_same st.marks (spot p e) 0 0 (omega (arith, sized.marks_length, spot_lt p e h k))

  -- other marks stay
  pub found_mark_other : (e r f : ℕ) → e < 512 → f < 512 → (r ≡ p → f ≢ e) → mark (found_state st p e) r f ≡ mark st r f
  unfolding found_state with_marks
  found_mark_other e r f h k d =
      get_or-set_other st.marks (spot p e) (spot r f) 0 0 (λ z. let t = spot_apart r f p e k h z in d t.0 t.1)
