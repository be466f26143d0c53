-- What each accepted call changes in a state, field by field and index by index, and that it changes nothing else.
-- Assumes nothing.
use Rattle.std.specs.Prelude.{◌≡◌, ℕ, ◌+◌, ◌%◌, ◌<◌, ◌≤◌, ◌≢◌}
use Rattle.std.proofs.Math.Path.{refl}
use Rattle.std.proofs.Common.{arith, mod-eq_of_lt}
use Rattle.std.proofs.Math.Seq.{get_or-set_same, get_or-set_other}
use Rattle.loops.specs.Choice.{at, one_if}
use Rattle.plan.specs.declared.Plan.{Plan}
use Rattle.formula.specs.Lists.{raised_in}
use Rattle.state.specs.declared.State.{State}
use Rattle.machine.specs.States.{mark, next_node, Sized}
use Rattle.machine.specs.Calls.{raised, to_see, opened_state, with_marks, found_state, next_position, fired_state}
use Rattle.machine.specs.Marks.{open_mark, open_mark_other, found_mark, found_mark_other}

-- "Each call that is not refused raises the turn number by one; 4,294,967,295 is followed by 0."
pub raised_by_one : (turn : ℕ) → turn < 4294967295 → raised turn ≡ turn + 1
unfolding raised
raised_by_one turn h = mod-eq_of_lt (omega arith)

pub raised_round : raised 4294967295 ≡ 0
unfolding raised
raised_round = refl

-- an open of process p
pub record Opens (pl : Plan) (st : State) (p : ℕ) (after : State) : Type 0 where
  pub positions : after.positions ≡ st.positions
  pub counters : after.counters ≡ st.counters
  pub turn : after.turn ≡ raised st.turn
  pub is_open : at after.opened p ≡ 1
  pub opened_others : (r : ℕ) → r ≢ p → at after.opened r ≡ at st.opened r
  pub marks : (e : ℕ) → e < pl.edges → mark after p e ≡ one_if (to_see pl (next_node pl st p) e)
  pub marks_past : (e : ℕ) → e < 512 → pl.edges ≤ e → mark after p e ≡ mark st p e
  pub marks_others : (r e : ℕ) → r ≢ p → e < 512 → mark after r e ≡ mark st r e

-- a look of process p at edge e that finds
pub record Finds (st : State) (p e : ℕ) (after : State) : Type 0 where
  pub positions : after.positions ≡ st.positions
  pub opened : after.opened ≡ st.opened
  pub counters : after.counters ≡ st.counters
  pub turn : after.turn ≡ raised st.turn
  pub gone : mark after p e ≡ 0
  pub marks_others : (r f : ℕ) → f < 512 → (r ≡ p → f ≢ e) → mark after r f ≡ mark st r f

-- a look that waits
pub record Waits (st after : State) : Type 0 where
  pub positions : after.positions ≡ st.positions
  pub opened : after.opened ≡ st.opened
  pub counters : after.counters ≡ st.counters
  pub marks : after.marks ≡ st.marks
  pub turn : after.turn ≡ raised st.turn

-- a fire of process p, whose next node is v
pub record Fires (pl : Plan) (st : State) (p v : ℕ) (after : State) : Type 0 where
  pub marks : after.marks ≡ st.marks
  pub turn : after.turn ≡ raised st.turn
  pub moves : at after.positions p ≡ next_position (at st.positions p) (at pl.lengths p)
  pub positions_others : (r : ℕ) → r ≢ p → at after.positions r ≡ at st.positions r
  pub is_closed : at after.opened p ≡ 0
  pub opened_others : (r : ℕ) → r ≢ p → at after.opened r ≡ at st.opened r
  pub adds : at after.counters (at pl.counter v) ≡ (at st.counters (at pl.counter v) + at pl.increment v) % pl.modulus
  pub counters_others : (c : ℕ) → c ≢ at pl.counter v → at after.counters c ≡ at st.counters c

module _ (pl : Plan) (st : State) (sized : Sized st) (p : ℕ) (h : p < 64) where
  pub opens : pl.edges ≤ 512 → Opens pl st p (opened_state pl st p)
  unfolding opened_state
  opens few =
      record {
        positions = refl;
        counters = refl;
        turn = refl;
        is_open = get_or-set_same st.opened p 1 0 (omega (arith, sized.opened_length));
        opened_others = λ r d. get_or-set_other st.opened p r 1 0 d;
        marks = λ e l. open_mark pl st sized p few e h l;
        marks_past = λ e l k. open_mark_other pl st sized p few p e l (λ q. k);
        marks_others = λ r e d l. open_mark_other pl st sized p few r e l (λ q. absurd (d q));
      }

  pub finds_changes : (e : ℕ) → e < 512 → Finds st p e (found_state st p e)
  unfolding found_state with_marks
  finds_changes e l =
      record {
        positions = refl;
        opened = refl;
        counters = refl;
        turn = refl;
        gone = found_mark pl st sized p e h l;
        marks_others = λ r f k d. found_mark_other pl st sized p e r f l k d;
      }

  pub waits_changes : Waits st (with_marks st st.marks)
  unfolding with_marks
  waits_changes = record { positions = refl; opened = refl; counters = refl; marks = refl; turn = refl }

  pub fires : (v : ℕ) → at pl.counter v < 64 → Fires pl st p v (fired_state pl st p v)
  unfolding fired_state raised_in
  fires v l =
      record {
        marks = refl;
        turn = refl;
        moves = get_or-set_same st.positions p (next_position (at st.positions p) (at pl.lengths p)) 0 (omega (arith, sized.positions_length));
        positions_others = λ r d. get_or-set_other st.positions p r _ 0 d;
        is_closed = get_or-set_same st.opened p 0 0 (omega (arith, sized.opened_length));
        opened_others = λ r d. get_or-set_other st.opened p r 0 0 d;
        adds = get_or-set_same st.counters (at pl.counter v) _ 0 (omega (arith, sized.counters_length));
        counters_others = λ c d. get_or-set_other st.counters (at pl.counter v) c _ 0 d;
      }
