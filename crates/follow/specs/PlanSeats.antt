-- The seats and the counters of an accepted plan.
-- Assumes nothing.
use Rattle.std.specs.Prelude.{◌≡◌, refl, ◌≢◌, ℕ, ◌+◌, ◌*◌, ◌<◌, eqb}
use Rattle.std.proofs.Math.Path.{sym, ap, subst}
use Rattle.std.proofs.Common.{◌∙◌, eq-eqb, ne_eqb}
use Rattle.loops.specs.Choice.{at, if_true, if_false}
use Rattle.net.specs.Graph.{Shaped, EveryCycleHolds}
use Rattle.net.specs.Processes.{Seats, Synchronising as between_processes}
use Rattle.net.specs.Tables.{graph_of_tables}
use Rattle.net.specs.Seating.{seats_of}
use Rattle.plan.specs.declared.Plan.{Plan}
use Rattle.plan.specs.Value.{graph_of, node_at, HasProcesses, Sits, InProcess, Synchronising, share, counter_sum, edge_sum}
use Rattle.plan.specs.Tests.{home, seat}
use Rattle.plan.specs.Tables.{Tabled}
use Rattle.plan.specs.Formed.{formed, shaped as ends_are_nodes}
use Rattle.plan.specs.Seating.{sits_unique}
use Rattle.judge.specs.Conditions.{RouteBack, C0, C1, C2, C3, C4, Multiple, Exceeds}
use Rattle.judge.specs.Sound.{Sound}
use Rattle.follow.specs.Counters.{Counters}

-- a node's own counter gets its increment
pub share_own : (pl : Plan) (v : ℕ) → share pl.counter pl.increment (at pl.counter v) v ≡ at pl.increment v
unfolding share
share_own pl v = if_true (eqb (at pl.counter v) (at pl.counter v)) (at pl.increment v) 0 (eq-eqb (at pl.counter v) (at pl.counter v) refl)

-- other counters get nothing
pub share_none : (pl : Plan) (c v : ℕ) → at pl.counter v ≢ c → share pl.counter pl.increment c v ≡ 0
unfolding share
share_none pl c v d = if_false (eqb (at pl.counter v) c) (at pl.increment v) 0 (ne_eqb (at pl.counter v) c d)

module _ (pl : Plan) (sound : Sound pl) where
  -- what its tables hold
  pub tables : Tabled pl
  tables = (formed pl sound.shape).tables

  -- there is a node
  pub some_node : 0 < (graph_of pl).nodes
  unfolding graph_of graph_of_tables
  some_node = tables.counts.nodes_some

  -- both ends of every edge are nodes
  pub shaped : Shaped (graph_of pl)
  shaped = ends_are_nodes pl tables

  -- every cycle holds a token
  pub every_cycle_holds : EveryCycleHolds (graph_of pl) (graph_of pl).tokens
  unfolding C0
  every_cycle_holds = sound.upheld.c0

  -- the process and the seat of each node
  unfoldable pub seats : Seats (graph_of pl)
  unfolding HasProcesses
  seats = seats_of (graph_of pl) pl.processes (at pl.lengths) (node_at pl) sound.upheld.processes

  -- where a node sits
  pub sits : (v : ℕ) → v < (graph_of pl).nodes → Sits pl v (seats.home v) (seats.seat v)
  unfolding seats seats_of
  sits v h = record { process_lt = seats.home_lt v h; seat_lt = seats.seat_lt v h; here = seats.node_of v h }

  -- as the machine works it out
  pub home_seat : (v : ℕ) → v < (graph_of pl).nodes → (home pl v ≡ seats.home v) × (seat pl v ≡ seats.seat v)
  home_seat v h = sits_unique pl tables (sits v h)

  -- a node of process p has its seat there
  pub sits_home : (v : ℕ) → v < (graph_of pl).nodes → (p : ℕ) → InProcess pl v p → seats.home v ≡ p
  sits_home v h p a = sym (home_seat v h).0 ∙ (sits_unique pl tables a.1).0

  -- an edge between processes is synchronising
  pub synchronising : (e : ℕ) → e < (graph_of pl).edges → between_processes (graph_of pl) seats e → Synchronising pl e
  unfolding graph_of graph_of_tables
  synchronising e h d =
      record {
        known = h;
        process_of_source = seats.home (at pl.source e);
        process_of_destination = seats.home (at pl.destination e);
        source_in = (seats.seat (at pl.source e), sits (at pl.source e) (tables.source_lt e h));
        destination_in = (seats.seat (at pl.destination e), sits (at pl.destination e) (tables.destination_lt e h));
        differ = d;
      }

  -- and the other way round
  pub between : (e : ℕ) → Synchronising pl e → between_processes (graph_of pl) seats e
  unfolding graph_of graph_of_tables
  between e s q =
      s.differ
      (sym (sits_home (at pl.source e) (tables.source_lt e s.known) s.process_of_source s.source_in) ∙ q
      ∙ sits_home (at pl.destination e) (tables.destination_lt e s.known) s.process_of_destination s.destination_in)

  -- the sum at an edge is that of either end's counter
  pub sum_at_end : (e v : ℕ) → v < (graph_of pl).nodes → counter_sum pl (at pl.counter v) ≡ edge_sum pl e
  unfolding C3 edge_sum graph_of graph_of_tables
  sum_at_end e v h = (sound.upheld.c3 (at pl.counter v) (tables.counter_lt v h)).0

  -- the plan's counters
  unfoldable pub counters : Counters (graph_of pl) seats
  unfolding graph_of graph_of_tables C1 C2 C4 C3 Multiple Exceeds RouteBack counter_sum edge_sum
  counters =
      record {
        counters = pl.counters;
        counter = at pl.counter;
        share = share pl.counter pl.increment;
        total = counter_sum pl;
        n = pl.modulus;
        counter_lt = tables.counter_lt;
        share_other = share_none pl;
        c1 = λ u v hu hv e. sound.upheld.c1 u v hu hv e (seats.home u) (seats.home v) (seats.seat u, sits u hu) (seats.seat v, sits v hv);
        c2 = λ e h d. subst (0 <◌) (sym (share_own pl (at pl.source e))) (sound.upheld.c2 e (synchronising e h d));
        c3 = λ v h. (refl, (sound.upheld.c3 (at pl.counter v) (tables.counter_lt v h)).1);
        same_total = λ e h d. sum_at_end e (at pl.source e) (tables.source_lt e h) ∙ sym (sum_at_end e (at pl.destination e) (tables.destination_lt e h));
        divides = λ v h. (sound.upheld.c4.0.0, sound.upheld.c4.0.1 ∙ ap (◌* sound.upheld.c4.0.0) (sym (sum_at_end 0 v h)));
        c4 = λ e h d.
            let r = sound.upheld.c4.1 e (synchronising e h d) in
            (r.0, r.1, subst (λ q. q * (at pl.tokens e + r.0) < pl.modulus) (sym (sum_at_end e (at pl.destination e) (tables.destination_lt e h))) r.2);
      }
