-- Where each node sits: the position, the process and the seat that the program works out are the only ones, for a plan value whose
-- tests pass.
-- Assumes nothing.
use Prim.Native.Nat.{ℕ, zero, suc, ◌+◌, ◌-◌, ◌≤◌, ◌<◌}
use Rattle.std.specs.Prelude.{◌≡◌, List, ◌↔◌}
use Rattle.std.proofs.Math.Path.{refl, sym, ap}
use Rattle.std.proofs.Common.{◌∙◌}
use Rattle.std.proofs.Math.Bool.{true, false}
use Rattle.std.proofs.Math.Decide.{dec_lt}
use native.Mathlib.Omega.{arith}
use borrow.Author.Tests.{ltb-true, ltb-false, eqb-true, eqb-false, lt-ltb, le-ltb, ne_eqb}
use Rattle.loops.specs.Choice.{at, if_false}
use Rattle.loops.specs.First.{first_below, first_here, first_none, first_unique}
use Rattle.loops.specs.Sum.{sum, sum_step}
use Rattle.loops.specs.Table.{padded_at}
use Rattle.net.specs.Processes.{Edge}
use Rattle.net.specs.Tables.{graph_of_tables}
use Rattle.plan.specs.declared.Plan.{Plan}
use Rattle.plan.specs.Value.{graph_of, base, node_at, HasProcesses, Sits, Synchronising}
use Rattle.plan.specs.Tests.{stands_at, order_position, ends_past, process_at, home_of, home, seat, synchronises, different, home_table}
use Rattle.plan.specs.Tables.{Tabled}
use Rattle.plan.specs.Formed.{past}
use Rattle.plan.specs.Onto.{Once, onto}

-- the process of a position: it begins at or before it and ends past it
module _ (lengths : List ℕ) (processes i : ℕ) where
  pub begins_before : (p : ℕ) → p ≤ process_at lengths processes i → base lengths p ≤ i
  unfolding process_at ends_past base sum
  begins_before zero h = omega arith
  begins_before (suc p) h = ltb-false _ _ (first_below (ends_past lengths i) processes p h)

  pub process_at_lt : i < base lengths processes → process_at lengths processes i < processes
  process_at_lt h =
      elim (dec_lt (process_at lengths processes i) processes) [
        | yes l ↦ l
        | no l ↦ absurd (omega (arith, begins_before processes (omega arith)))
      ]

  pub ends_after : i < base lengths processes → i < base lengths (suc (process_at lengths processes i))
  unfolding process_at ends_past
  ends_after h = ltb-true _ _ (first_here (ends_past lengths i) processes (process_at_lt h))

  -- no other process does
  pub process_at_is : (p : ℕ) → p < processes → base lengths p ≤ i → i < base lengths (suc p) → process_at lengths processes i ≡ p
  unfolding process_at ends_past base
  process_at_is p h l m =
      first_unique (ends_past lengths i) processes p h (lt-ltb i (base lengths (suc p)) m)
      (λ k b. le-ltb i (base lengths (suc k)) (omega (arith, sum_step (at lengths) (suc k) p b)))

-- in an order of different nodes each has a position, at which it stands
module _ (order : List ℕ) (nodes : ℕ) (once : Once (at order) nodes) where
  pub placed_lt : (v : ℕ) → v < nodes → order_position order nodes v < nodes
  unfolding order_position stands_at
  placed_lt v h =
      elim (dec_lt (order_position order nodes v) nodes) [
        | yes l ↦ l
        | no l ↦ absurd (onto nodes (at order) once v h (λ i m. eqb-false _ _ (first_none (stands_at order v) nodes i (omega arith) m)))
      ]

  pub placed_there : (v : ℕ) → v < nodes → at order (order_position order nodes v) ≡ v
  unfolding order_position stands_at
  placed_there v h = eqb-true _ _ (first_here (stands_at order v) nodes (placed_lt v h))

-- so it is in a plan whose tests pass
pub order_once : (pl : Plan) → Tabled pl → Once (at pl.order) pl.nodes
order_once pl t = record { small = t.order_lt; apart = t.order_apart }

module _ (pl : Plan) (t : Tabled pl) where
  -- the position of a node, and the node of a position
  pub order_position_lt : (v : ℕ) → v < pl.nodes → order_position pl.order pl.nodes v < pl.nodes
  order_position_lt = placed_lt pl.order pl.nodes (order_once pl t)

  pub node_there : (v : ℕ) → v < pl.nodes → at pl.order (order_position pl.order pl.nodes v) ≡ v
  node_there = placed_there pl.order pl.nodes (order_once pl t)

  pub order_position_is : (i : ℕ) → i < pl.nodes → order_position pl.order pl.nodes (at pl.order i) ≡ i
  order_position_is i h = let l = t.order_lt i h in t.order_apart _ i (order_position_lt (at pl.order i) l) h (node_there (at pl.order i) l)

  -- a seat is a position
  pub within : (p j : ℕ) → p < pl.processes → j < at pl.lengths p → base pl.lengths p + j < pl.nodes
  unfolding base sum
  within p j h l = omega (arith, t.full, sum_step (at pl.lengths) (suc p) pl.processes h)

  pub node_at_lt : (p j : ℕ) → p < pl.processes → j < at pl.lengths p → node_at pl p j < pl.nodes
  unfolding node_at
  node_at_lt p j h l = t.order_lt (base pl.lengths p + j) (within p j h l)

  -- every node sits where the program says
  pub sits : (v : ℕ) → v < pl.nodes → Sits pl v (home pl v) (seat pl v)
  unfolding home home_of seat node_at base sum
  sits v h =
      let i : ℕ = order_position pl.order pl.nodes v in
      let l : i < base pl.lengths pl.processes = omega (arith, order_position_lt v h, t.full) in
      let low = begins_before pl.lengths pl.processes i (home pl v) (omega arith) in
      record {
        process_lt = process_at_lt pl.lengths pl.processes i l;
        seat_lt = omega (arith, low, ends_after pl.lengths pl.processes i l);
        here = ap (at pl.order) (let e : base pl.lengths (home pl v) + (i - base pl.lengths (home pl v)) ≡ i = omega (arith, low) in e) ∙ node_there v h;
      }

  -- and nowhere else
  pub sits_unique : {v p j : ℕ} → Sits pl v p j → (home pl v ≡ p) × (seat pl v ≡ j)
  unfolding home home_of seat node_at base sum
  sits_unique {v} {p} {j} s =
      let i : ℕ = base pl.lengths p + j in
      let at_i : order_position pl.order pl.nodes v ≡ i = ap (order_position pl.order pl.nodes) (sym s.here) ∙ order_position_is i (within p j s.process_lt s.seat_lt) in
      let at_p : home pl v ≡ p =
      ap (process_at pl.lengths pl.processes) at_i
      ∙ process_at_is pl.lengths pl.processes i p s.process_lt (omega arith) (omega (arith, s.seat_lt)) in
      (at_p, omega (arith, at_i, ap (base pl.lengths) at_p))

  pub home_lt : (v : ℕ) → v < pl.nodes → home pl v < pl.processes
  home_lt v h = (sits v h).process_lt

  pub seat_lt : (v : ℕ) → v < pl.nodes → seat pl v < at pl.lengths (home pl v)
  seat_lt v h = (sits v h).seat_lt

  -- the test of an edge says whether its ends are in different processes
  pub synchronises_exactly : (e : ℕ) → e < pl.edges → (synchronises pl e ≡ true) ↔ Synchronising pl e
  unfolding synchronises
  synchronises_exactly e h = (
    λ q.
        record {
          known = h;
          process_of_source = home pl (at pl.source e);
          process_of_destination = home pl (at pl.destination e);
          source_in = (seat pl (at pl.source e), sits (at pl.source e) (t.source_lt e h));
          destination_in = (seat pl (at pl.destination e), sits (at pl.destination e) (t.destination_lt e h));
          differ = eqb-false _ _ (past _ true q).0;
        },
    λ s.
        if_false _ false true (ne_eqb _ _
        (λ q. s.differ (sym (sits_unique s.source_in.1).0 ∙ q ∙ (sits_unique s.destination_in.1).0))),
  )

  -- so does the test over the table of the nodes' processes
  pub home_table_at : (v : ℕ) → v < pl.nodes → at (home_table pl) v ≡ home pl v
  unfolding home
  home_table_at v h = padded_at _ 64 pl.nodes v h

  pub different_is : (e : ℕ) → e < pl.edges → different (home_table pl) (at pl.source e) (at pl.destination e) ≡ synchronises pl e
  unfolding different synchronises
  different_is e h = rw (home_table_at (at pl.source e) (t.source_lt e h), home_table_at (at pl.destination e) (t.destination_lt e h))

  -- the plan's processes are disjoint simple cycles that cover all nodes where their edges are there with their tokens
  pub has_processes :
      ((p : ℕ) → p < pl.processes → (j : ℕ) → suc j < at pl.lengths p → Edge (graph_of pl) (node_at pl p j) (node_at pl p (suc j)) 0)
      → ((p : ℕ) → p < pl.processes → (j : ℕ) → suc j ≡ at pl.lengths p → Edge (graph_of pl) (node_at pl p j) (node_at pl p 0) 1)
      → HasProcesses pl
  unfolding HasProcesses graph_of graph_of_tables
  has_processes on closing =
      record {
        some = t.length_some;
        inside = λ p h j l. node_at_lt p j h l;
        apart = λ p q h k i j l m e.
            let a = sits_unique (record { process_lt = h; seat_lt = l; here = e }) in
            let b = sits_unique (record { process_lt = k; seat_lt = m; here = refl }) in
            (sym a.0 ∙ b.0, sym a.1 ∙ b.1);
        cover = λ v h. let s = sits v h in (home pl v, seat pl v, s.process_lt, s.seat_lt, s.here);
        on = on;
        closing = closing;
      }
