-- What each call that is not refused makes of a state in shape: again a state in shape.
-- Assumes nothing.
use Rattle.std.specs.Prelude.{◌≡◌, ℕ, ◌<◌, ◌≤◌, ◌≢◌, List, length, slice_set}
use Rattle.std.proofs.Math.Path.{refl, ap, subst}
use Rattle.std.proofs.Common.{sym, ◌∙◌, arith, mod-lt, get_or-set_same, get_or-set_other}
use Rattle.std.proofs.Math.Decide.{ℕ_discrete, dec_lt}
use Rattle.loops.specs.Choice.{at, one_if, if_le}
use Rattle.plan.specs.declared.Plan.{Plan}
use Rattle.plan.specs.Value.{node_at}
use Rattle.plan.specs.Faults.{InShape}
use Rattle.plan.specs.Tables.{Tabled}
use Rattle.plan.specs.Formed.{formed}
use Rattle.plan.specs.Seating.{node_at_lt}
use Rattle.formula.specs.Lists.{raised_in}
use Rattle.state.specs.declared.State.{State}
use Rattle.machine.specs.States.{mark, next_node, fresh, Sized}
use Rattle.machine.specs.Calls.{to_see, marks_left, opened_state, with_marks, found_state, next_position, fired_state}
use Rattle.machine.specs.ByTest.{one_if_some, sum_zero}
use Rattle.machine.specs.FreshState.{fresh_position, fresh_opened, fresh_counter, fresh_mark, fresh_sized}
use Rattle.machine.specs.NextPosition.{next_position_lt}
use Rattle.machine.specs.Marks.{open_mark, open_mark_other, found_mark, found_mark_other}
use Rattle.machine.specs.Sizes.{open_sized, found_sized, wait_sized, fire_sized}
use Rattle.machine.specs.ShapeParts.{InRange, MarkFits, Parts}
use Rattle.machine.specs.ShapeTest.{to_see_exactly}

-- entries in range, one of them set to a value in range
in_range_set : (limit : ℕ → ℕ) (count : ℕ) (entries : List ℕ) (i x : ℕ) → i < length entries → i < count → x < limit i
    → (k : ℕ) → InRange limit count entries k → InRange limit count (slice_set entries i x) k
in_range_set limit count entries i x l h b k r =
    elim (ℕ_discrete k i) [
      | yes z ↦
          record {
            known = λ m. subst (λ j. at (slice_set entries i x) j < limit j) (sym z) (let e = get_or-set_same entries i x 0 l in omega arith);
            past = λ m. absurd (omega arith);
          }
      | no z ↦ let e = get_or-set_other entries i k x 0 z in record { known = λ m. omega (arith, r.known m); past = λ m. e ∙ r.past m }
    ]

-- a mark stays in order where it stays, its process stays open and at its position
fits_kept : (pl : Plan) (st st' : State) (p e : ℕ) → mark st' p e ≡ mark st p e → at st'.opened p ≡ at st.opened p
    → at st'.positions p ≡ at st.positions p → MarkFits pl st p e → MarkFits pl st' p e
unfolding next_node node_at
fits_kept pl st st' p e same is_open stands f =
    record {
      flag = omega (arith, f.flag);
      means = λ d.
          let m = f.means (λ z. d (same ∙ z)) in
          record {
            process_lt = m.process_lt;
            is_open = omega (arith, m.is_open);
            next = m.next ∙ ap (node_at pl p) (sym stands);
            synchronising = m.synchronising;
          };
    }

-- a mark that is gone is in order
fits_gone : (pl : Plan) (st : State) (p e : ℕ) → mark st p e ≡ 0 → MarkFits pl st p e
fits_gone pl st p e z = record { flag = omega arith; means = λ d. absurd (d z) }

-- a state in shape, with lists of the right lengths
pub record Kept (pl : Plan) (st : State) : Type 0 where
  pub parts : Parts pl st
  pub sized : Sized st

module _ (pl : Plan) (shape : InShape pl) where
  tables : Tabled pl
  tables = (formed pl shape).tables

  few : pl.edges ≤ 512
  few = tables.counts.edges_most

  -- the next node of a process is a node
  pub next_node_lt : (st : State) → Parts pl st → (p : ℕ) → p < pl.processes → next_node pl st p < pl.nodes
  unfolding next_node node_at
  next_node_lt st parts p h = node_at_lt pl tables p (at st.positions p) h ((parts.positions p (omega (arith, tables.counts))).known h)

  -- a fresh state is in shape
  pub fresh_kept : Kept pl fresh
  fresh_kept =
      record {
        parts = record {
          positions = λ p l. record { known = λ h. omega (arith, fresh_position p, tables.length_some p h); past = λ h. fresh_position p };
          opened = λ p l. record { known = λ h. omega (arith, fresh_opened p); past = λ h. fresh_opened p };
          counters = λ c l. record { known = λ h. omega (arith, fresh_counter c, tables.counts); past = λ h. fresh_counter c };
          marks = λ p l e h. fits_gone pl fresh p e (fresh_mark p e);
        };
        sized = fresh_sized;
      }

  module _ (st : State) (kept : Kept pl st) where
    parts : Parts pl st
    parts = kept.parts

    sized : Sized st
    sized = kept.sized

    -- the marks after an open
    open_fits : (p : ℕ) → p < pl.processes → (r : ℕ) → r < 64 → (e : ℕ) → e < 512 → MarkFits pl (opened_state pl st p) r e
    unfolding opened_state next_node one_if
    open_fits p h r l e k =
        elim (ℕ_discrete r p) [
          | no z ↦
              fits_kept pl st (opened_state pl st p) r e (open_mark_other pl st sized p few r e k (λ y. absurd (z y))) (get_or-set_other st.opened p r 1 0 z) refl
              (parts.marks r l e k)
          | yes z ↦
              elim (dec_lt e pl.edges) [
                | no m ↦
                    let same = open_mark_other pl st sized p few r e k (λ y. omega arith) in
                    fits_gone pl (opened_state pl st p) r e (same ∙ gone r l e k (omega arith))
                | yes m ↦ subst (λ x. MarkFits pl (opened_state pl st p) x e) (sym z) (here e m)
              ]
        ]
      where
        -- past the edges there is no mark
        gone : (r : ℕ) → r < 64 → (e : ℕ) → e < 512 → pl.edges ≤ e → mark st r e ≡ 0
        gone r l e k m =
            elim (ℕ_discrete (mark st r e) 0) [
              | yes y ↦ y
              | no y ↦ absurd (omega (arith, ((parts.marks r l e k).means y).synchronising.known))
            ]

        here : (e : ℕ) → e < pl.edges → MarkFits pl (opened_state pl st p) p e
        here e m =
            let new = open_mark pl st sized p few e (omega (arith, tables.counts)) m in
            record {
              flag = omega (arith, if_le (to_see pl (next_node pl st p) e) {x = 1} {y = 0} {m = 1} (omega arith) (omega arith));
              means = λ d.
                  let t = (to_see_exactly pl shape (next_node pl st p) e m).0 (one_if_some (to_see pl (next_node pl st p) e) (λ y. d (new ∙ y))) in
                  record {
                    process_lt = h;
                    is_open = omega (arith, get_or-set_same st.opened p 1 0 (omega (arith, sized.opened_length, tables.counts)));
                    next = t.0;
                    synchronising = t.1;
                  };
            }

    -- open
    pub open_kept : (p : ℕ) → p < pl.processes → Kept pl (opened_state pl st p)
    unfolding opened_state
    open_kept p h =
        record {
          parts = record {
            positions = parts.positions;
            opened = λ r l.
                in_range_set (λ r. 2) pl.processes st.opened p 1 (omega (arith, sized.opened_length, tables.counts)) h (omega arith) r (parts.opened r l);
            counters = parts.counters;
            marks = open_fits p h;
          };
          sized = open_sized pl st sized p;
        }

    -- a look that waits
    pub wait_kept : Kept pl (with_marks st st.marks)
    unfolding with_marks
    wait_kept =
        record {
          parts = record {
            positions = parts.positions;
            opened = parts.opened;
            counters = parts.counters;
            marks = λ r l e k. fits_kept pl st (with_marks st st.marks) r e refl refl refl (parts.marks r l e k);
          };
          sized = wait_sized pl st sized;
        }

    -- a look that finds
    pub found_kept : (p e : ℕ) → p < pl.processes → e < pl.edges → Kept pl (found_state st p e)
    unfolding found_state with_marks
    found_kept p e h k =
        record {
          parts = record {
            positions = parts.positions;
            opened = parts.opened;
            counters = parts.counters;
            marks = λ r l f m.
                elim (ℕ_discrete r p) [
                  | no y ↦ stays r l f m (λ z. absurd (y z))
                  | yes y ↦
                      elim (ℕ_discrete f e) [
                        | no x ↦ stays r l f m (λ z. x)
                        | yes x ↦
                            fits_gone pl (found_state st p e) r f
                            (ap (λ a. mark (found_state st p e) a f) y ∙ ap (mark (found_state st p e) p) x ∙ found_mark pl st sized p e (omega arith) (omega arith))
                      ]
                ];
          };
          sized = found_sized pl st sized p e;
        }
      where
        stays : (r : ℕ) → r < 64 → (f : ℕ) → f < 512 → (r ≡ p → f ≢ e) → MarkFits pl (found_state st p e) r f
        stays r l f m d = fits_kept pl st (found_state st p e) r f (found_mark_other pl st sized p e r f (omega (arith, few)) m d) refl refl (parts.marks r l f m)

    -- fire
    pub fire_kept : (p : ℕ) → p < pl.processes → marks_left st p ≡ 0 → Kept pl (fired_state pl st p (next_node pl st p))
    unfolding fired_state raised_in marks_left
    fire_kept p h z =
        record {
          parts = record {
            positions = λ r l.
                in_range_set (at pl.lengths) pl.processes st.positions p _ (omega (arith, sized.positions_length, tables.counts)) h moved r
                (parts.positions r l);
            opened = λ r l.
                in_range_set (λ r. 2) pl.processes st.opened p 0 (omega (arith, sized.opened_length, tables.counts)) h (omega arith) r (parts.opened r l);
            counters = λ c l.
                in_range_set (λ c. pl.modulus) pl.counters st.counters _ _ (omega (arith, sized.counters_length, own, tables.counts)) own
                (mod-lt _ (omega (arith, tables.counts))) c (parts.counters c l);
            marks = λ r l e k.
                elim (ℕ_discrete r p) [
                  | yes y ↦ fits_gone pl _ r e (ap (λ a. mark st a e) y ∙ (sum_zero (mark st p) 512).0 z e k)
                  | no y ↦
                      fits_kept pl st _ r e refl (get_or-set_other st.opened p r 0 0 y) (get_or-set_other st.positions p r _ 0 y) (parts.marks r l e k)
                ];
          };
          sized = fire_sized pl st sized p (next_node pl st p);
        }
      where
        stands : at st.positions p < at pl.lengths p
        stands = (parts.positions p (omega (arith, tables.counts))).known h

        own : at pl.counter (next_node pl st p) < pl.counters
        own = tables.counter_lt (next_node pl st p) (next_node_lt st parts p h)

        moved : next_position (at st.positions p) (at pl.lengths p) < at pl.lengths p
        moved = next_position_lt _ _ stands
