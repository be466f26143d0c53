-- What each call that is not refused makes of a state that stands for a list of firings.
-- Assumes nothing.
use Rattle.std.specs.Prelude.{◌≡◌, true, List, [], ◌∷◌, ◌++◌, ◌≢◌, set}
use Rattle.std.proofs.Math.Path.{sym, ap}
use Rattle.std.proofs.Common.{◌∙◌, arith}
use Prim.Native.Nat.{ℕ, suc, ◌+◌, ◌%◌, ◌≤◌, ◌<◌}
use Rattle.std.proofs.Math.Seq.{get_or-set_same, get_or-set_other}
use Rattle.loops.specs.Choice.{at}
use Rattle.net.specs.Graph.{Fireable}
use Rattle.net.specs.Processes.{Seats, Next, Moved, Synchronising as between_processes}
use Rattle.net.specs.Tables.{graph_of_tables}
use Rattle.net.specs.Seating.{seats_of}
use Rattle.net.specs.Rounds.{moved}
use Rattle.plan.specs.declared.Plan.{Plan}
use Rattle.plan.specs.Value.{graph_of}
use Rattle.judge.specs.Sound.{Sound}
use Rattle.formula.specs.Lists.{raised_in}
use Rattle.state.specs.declared.State.{State}
use Rattle.machine.specs.States.{mark, next_node}
use Rattle.machine.specs.Calls.{edge_found, to_see, marks_left, opened_state, with_marks, found_state, next_position, fired_state}
use Rattle.machine.specs.ByTest.{one_if_true, sum_zero}
use Rattle.machine.specs.NextPosition.{next_position_on, next_position_last}
use Rattle.machine.specs.Marks.{open_mark, open_mark_other, found_mark_other}
use Rattle.machine.specs.ShapeTest.{to_see_exactly}
use Rattle.machine.specs.KeptByCalls.{open_kept, wait_kept, found_kept, fire_kept}
use Rattle.follow.specs.Beside.{open_beside, found_beside, may_fire, fire_beside}
use Rattle.follow.specs.PlanSeats.{tables, shaped, every_cycle_holds, seats, synchronising, counters, share_own}
use Rattle.follow.specs.Meaning.{tokens_after}
use Rattle.follow.specs.StandsFor.{Follows, NextNode, next_node_is, destination_is}
use Rattle.follow.specs.EdgeTest.{edge_found_is}

module _ (pl : Plan) (sound : Sound pl) (st : State) (s : List ℕ) (f : Follows pl sound st s) where
  -- an edge of the graph is one of the plan, and has a mark
  edge_lt : (e : ℕ) → e < (graph_of pl).edges → (e < pl.edges) × (e < 512)
  unfolding graph_of graph_of_tables
  edge_lt e h = (h, omega (arith, (tables pl sound).counts))

  -- open
  pub open_follows : (p : ℕ) → p < pl.processes → Follows pl sound (opened_state pl st p) s
  unfolding opened_state graph_of graph_of_tables
  open_follows p h =
      record {
        kept = open_kept pl sound.shape st f.kept p h;
        stands = open_beside (graph_of pl) (seats pl sound) (counters pl sound) (shaped pl sound) f.stands p
            (at (set st.opened p 1)) (mark (opened_state pl st p))
            (λ r d. (get_or-set_other st.opened p r 1 0 d, λ e l. open_mark_other pl st f.kept.sized p few r e (edge_lt e l).1 (λ y. absurd (d y))))
            to_see_marked;
      }
    where
      few : pl.edges ≤ 512
      few = (tables pl sound).counts.edges_most

      to_see_marked : (e : ℕ) → e < (graph_of pl).edges → between_processes (graph_of pl) (seats pl sound) e
          → Next (graph_of pl) (seats pl sound) (at st.positions) ((graph_of pl).destination e) → (seats pl sound).home ((graph_of pl).destination e) ≡ p
          → mark (opened_state pl st p) p e ≢ 0
      to_see_marked e l d next here z =
          let seen = (to_see_exactly pl sound.shape (next_node pl st p) e (edge_lt e l).0).1
          (destination_is pl sound st e l next ∙ ap (next_node pl st) here, synchronising pl sound e l d) in
          omega (
            arith,
            open_mark pl st f.kept.sized p few e (omega (arith, (tables pl sound).counts)) (edge_lt e l).0,
            one_if_true (to_see pl (next_node pl st p) e) seen,
          )

  -- a look that waits
  pub wait_follows : Follows pl sound (with_marks st st.marks) s
  unfolding with_marks
  wait_follows = record { kept = wait_kept pl sound.shape st f.kept; stands = f.stands }

  -- a look that finds
  pub found_follows : (p e : ℕ) → p < pl.processes → e < pl.edges → edge_found pl st e ≡ true → Follows pl sound (found_state st p e) s
  unfolding found_state with_marks graph_of graph_of_tables
  found_follows p e h k t =
      record {
        kept = found_kept pl sound.shape st f.kept p e h k;
        stands = found_beside (graph_of pl) (seats pl sound) (counters pl sound) (shaped pl sound) f.stands p e
            (mark (found_state st p e)) ((edge_found_is pl sound st e k).0 t)
            (λ r g l d. found_mark_other pl st f.kept.sized p e r g (edge_lt e k).1 (edge_lt g l).1 d);
      }

  -- where the process is open with no mark left, its next node may fire
  pub fire_fireable : (p : ℕ) → p < pl.processes → at st.opened p ≢ 0 → marks_left st p ≡ 0
      → Fireable (graph_of pl) (tokens_after pl s) (next_node pl st p)
  unfolding marks_left
  fire_fireable p h o z =
      let t = next_node_is pl sound st f.kept p h in
      may_fire (graph_of pl) (seats pl sound) (counters pl sound) (shaped pl sound) f.stands (every_cycle_holds pl sound) (next_node pl st p) t.node_lt
      t.next (omega (arith, ap (at st.opened) t.home_is))
      (λ e l. ap (λ r. mark st r e) t.home_is ∙ (sum_zero (mark st p) 512).0 z e (edge_lt e l).1)

  -- the process moves to the next position
  fire_moved : (p : ℕ) → p < pl.processes
      → Moved (graph_of pl) (seats pl sound) (next_node pl st p) f.stands.rounds (at st.positions)
      (moved (graph_of pl) (seats pl sound) (next_node pl st p) f.stands.rounds (at st.positions)).0
      (at (set st.positions p (next_position (at st.positions p) (at pl.lengths p))))
  unfolding seats seats_of
  fire_moved p h =
      record {
        others = λ r d. ((m.others r d).0, get_or-set_other st.positions p r position 0 (λ y. d (y ∙ sym t.home_is)));
        onward = λ l. (
          (m.onward l).0,
          here ∙ next_position_on _ _ (λ y. omega (arith, t.next, same_position, same_length)) ∙ ap suc (sym same_position),
        );
        round = λ l. (
          (m.round l).0,
          here ∙ next_position_last _ _ (omega (arith, t.next, same_position, same_length)),
        );
      }
    where
      S : Seats (graph_of pl)
      S = seats pl sound

      v : ℕ
      v = next_node pl st p

      position : ℕ
      position = next_position (at st.positions p) (at pl.lengths p)

      t : NextNode pl sound st p
      t = next_node_is pl sound st f.kept p h

      m : Moved (graph_of pl) S v f.stands.rounds (at st.positions) (moved (graph_of pl) S v f.stands.rounds (at st.positions)).0
          (moved (graph_of pl) S v f.stands.rounds (at st.positions)).1
      m = (moved (graph_of pl) S v f.stands.rounds (at st.positions)).2

      same_position : at st.positions (S.home v) ≡ at st.positions p
      same_position = ap (at st.positions) t.home_is

      same_length : at pl.lengths (S.home v) ≡ at pl.lengths p
      same_length = ap (at pl.lengths) t.home_is

      here : at (set st.positions p position) (S.home v) ≡ position
      here =
          ap (at (set st.positions p position)) t.home_is
          ∙ get_or-set_same st.positions p position 0 (omega (arith, f.kept.sized.positions_length, (tables pl sound).counts))

  -- the node's counter gets its increment
  fire_raised : (v : ℕ) → v < (graph_of pl).nodes
      → at (set st.counters (at pl.counter v) ((at st.counters (at pl.counter v) + at pl.increment v) % pl.modulus)) ((counters pl sound).counter v)
      ≡ (at st.counters ((counters pl sound).counter v) + (counters pl sound).share ((counters pl sound).counter v) v) % (counters pl sound).n
  unfolding counters graph_of graph_of_tables
  fire_raised v h =
      get_or-set_same st.counters (at pl.counter v) _ 0 (omega (arith, (tables pl sound).counter_lt v h, f.kept.sized.counters_length, (tables pl sound).counts))
      ∙ ap (λ x. (at st.counters (at pl.counter v) + x) % pl.modulus) (sym (share_own pl v))

  -- and the others stay
  others_stay : (v x c : ℕ) → c ≢ (counters pl sound).counter v → at (set st.counters (at pl.counter v) x) c ≡ at st.counters c
  unfolding counters
  others_stay v x c d = get_or-set_other st.counters (at pl.counter v) c x 0 d

  -- fire
  pub fire_follows : (p : ℕ) → p < pl.processes → at st.opened p ≢ 0 → marks_left st p ≡ 0
      → Follows pl sound (fired_state pl st p (next_node pl st p)) (s ++ (next_node pl st p ∷ []))
  unfolding fired_state raised_in
  fire_follows p h o z =
      let v = next_node pl st p in
      let t = next_node_is pl sound st f.kept p h in
      record {
        kept = fire_kept pl sound.shape st f.kept p h z;
        stands = fire_beside (graph_of pl) (seats pl sound) (counters pl sound) (shaped pl sound) f.stands
            v t.node_lt t.next (fire_fireable p h o z) _ (at (set st.opened p 0)) _ _ (fire_moved p h)
            (ap (at (set st.opened p 0)) t.home_is ∙ get_or-set_same st.opened p 0 0 (omega (arith, f.kept.sized.opened_length, (tables pl sound).counts)))
            (λ r d. get_or-set_other st.opened p r 0 0 (λ y. d (y ∙ sym t.home_is)))
            (fire_raised v t.node_lt) (others_stay v _);
      }
