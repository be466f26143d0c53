-- What the rows that tests 10 to 16 are lent say of a plan whose tests 3 and 5 to 8 pass; and what is asked of lent tables.
-- Assumes nothing.
use Rattle.std.specs.Prelude.{ℕ, ◌≤◌, ◌<◌, ◌≡◌, refl, List, Bool, ◌↔◌, ◌≢◌, eqb}
use Rattle.std.proofs.Math.Decide.{dec_lt}
use native.Mathlib.Omega.{arith}
use Rattle.std.proofs.Math.Path.{sym, ap}
use Rattle.std.proofs.Common.{◌∙◌}
use Rattle.std.proofs.Math.Bool.{true, false}
use borrow.Author.Tests.{eqb-false, ne_eqb}
use Rattle.loops.specs.Choice.{at, if, if_le, if_false, one_if, either_false}
use Rattle.loops.specs.First.{first, first_none}
use Rattle.loops.specs.Sum.{sum, sum_le_below}
use Rattle.loops.specs.Table.{padded, padded_at, padded_past}
use Rattle.plan.specs.declared.Plan.{Plan}
use Rattle.plan.specs.Value.{share, Synchronising}
use Rattle.plan.specs.Tests.{home, different, synchronises}
use Rattle.plan.specs.Tables.{Tabled}
use Rattle.plan.specs.Formed.{past}
use Rattle.plan.specs.Tests.{home_table}
use Rattle.plan.specs.Seating.{home_table_at, synchronises_exactly}
use Rattle.seats.specs.Crossing.{crossing_table}
use Rattle.seats.specs.Laws.{crossing_at}
use Rattle.routes.specs.Relaxing.{EndsInRow}
use Rattle.routes.specs.Settling.{row_most}
use Rattle.rounds.specs.Lent.{bad_sum_in}
use Rattle.cycles.specs.Lent.{loop_sum_in, Small}
use Rattle.judge.specs.Tests.{loop_sum, sum_table}

-- edges between known nodes, with tokens in bounds
pub record EdgesOk (source destination tokens : List ℕ) (nodes edges : ℕ) : Type 0 where
  pub nodes_most : nodes ≤ 64
  pub edges_most : edges ≤ 512
  pub source_lt : (e : ℕ) → e < edges → at source e < nodes
  pub destination_lt : (e : ℕ) → e < edges → at destination e < nodes
  pub tokens_most : (e : ℕ) → e < edges → at tokens e ≤ 1000

-- counters, at least one, of nodes with increments in bounds
pub record CountersOk (increment : List ℕ) (nodes counters : ℕ) : Type 0 where
  pub counters_some : 1 ≤ counters
  pub counters_most : counters ≤ 64
  pub increment_most : (v : ℕ) → v < nodes → at increment v ≤ 255

module _ {source destination tokens : List ℕ} {nodes edges : ℕ} (ok : EdgesOk source destination tokens nodes edges) where
  -- both ends of an edge have an entry in a row of the nodes
  pub ends_in_row : EndsInRow source destination edges
  ends_in_row =
      record {
        source_lt = λ e h. omega (arith, ok.source_lt e h, ok.nodes_most);
        destination_lt = λ e h. omega (arith, ok.destination_lt e h, ok.nodes_most);
      }

  -- no loop sum is above 1,000 tokens and `no_route`
  pub sums_small : {sums : List ℕ} → sums ≡ padded (loop_sum_in source destination tokens edges) 512 edges → Small sums
  unfolding loop_sum_in
  sums_small s e =
      elim (dec_lt e edges) [
        | yes l ↦
            omega (
              arith,
              ap (λ x. at x e) s ∙ padded_at (loop_sum_in source destination tokens edges) 512 edges e l,
              ok.tokens_most e l,
              row_most source destination tokens edges (at destination e) (at source e) (ends_in_row.destination_lt e l),
            )
        | no l ↦ omega (arith, ap (λ x. at x e) s, padded_past (loop_sum_in source destination tokens edges) 512 edges e (omega arith))
      ]

-- a counter's sum is at most 64 increments of at most 255
pub sum_most : (counter increment : List ℕ) (nodes counters c : ℕ) {q : ℕ} → CountersOk increment nodes counters → nodes ≤ 64
    → q ≡ sum (share counter increment c) nodes → q ≤ 16320
unfolding share
sum_most counter increment nodes counters c ok h e =
    omega (
      arith,
      sum_le_below (share counter increment c) 255 nodes (λ v l. if_le (eqb (at counter v) c) (ok.increment_most v l) (omega arith)),
    )

-- where test 12 passes, counter 0's sum is at least 1
pub sum_some : (counter increment : List ℕ) (nodes counters : ℕ) {q : ℕ} → CountersOk increment nodes counters → q ≡ sum (share counter increment 0) nodes
    → counters ≤ first (bad_sum_in counter increment nodes q) counters → 1 ≤ q
unfolding bad_sum_in
sum_some counter increment nodes counters {q} ok e h =
    let none = first_none (bad_sum_in counter increment nodes q) counters 0 h ok.counters_some in
    let differ = eqb-false (sum (share counter increment 0) nodes) 0 (either_false (eqb (sum (share counter increment 0) nodes) 0) _ none).0 in
    omega arith

-- 1 is the choice that is 1
one_is : (t : Bool) → eqb (one_if t) 1 ≡ t
unfolding one_if if
one_is true = refl
one_is false = refl

module _ (pl : Plan) (t : Tabled pl) where
  pub edges_ok : EdgesOk pl.source pl.destination pl.tokens pl.nodes pl.edges
  edges_ok =
      record {
        nodes_most = t.counts.nodes_most;
        edges_most = t.counts.edges_most;
        source_lt = t.source_lt;
        destination_lt = t.destination_lt;
        tokens_most = t.tokens_most;
      }

  pub counters_ok : CountersOk pl.increment pl.nodes pl.counters
  counters_ok = record { counters_some = t.counts.counters_some; counters_most = t.counts.counters_most; increment_most = t.increment_most }

  -- the table of processes tells two nodes of different processes
  pub different_exactly : (v w : ℕ) → v < pl.nodes → w < pl.nodes → (different (home_table pl) v w ≡ true) ↔ (home pl v ≢ home pl w)
  unfolding different
  different_exactly v w h k =
      let at_v = home_table_at pl t v h in
      let at_w = home_table_at pl t w k in (
        λ e q. eqb-false _ _ (past _ true e).0 (at_v ∙ q ∙ sym at_w),
        λ d. if_false _ false true (ne_eqb _ _ (λ q. d (sym at_v ∙ q ∙ at_w))),
      )

  -- the row of synchronising edges tells them
  pub crosses_exactly : (e : ℕ) → e < pl.edges → (eqb (at (crossing_table pl) e) 1 ≡ true) ↔ Synchronising pl e
  crosses_exactly e h =
      let same : eqb (at (crossing_table pl) e) 1 ≡ synchronises pl e = ap (λ x. eqb x 1) (crossing_at pl t e h) ∙ one_is (synchronises pl e) in (
        λ q. (synchronises_exactly pl t e h).0 (sym same ∙ q),
        λ s. same ∙ (synchronises_exactly pl t e h).1 s,
      )

  -- the row of loop sums holds them
  pub sum_at : (e : ℕ) → e < pl.edges → at (sum_table pl) e ≡ loop_sum pl e
  sum_at e h = padded_at (loop_sum pl) 512 pl.edges e h
