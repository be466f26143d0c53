-- The machine's test of an edge is the test of `Beside`: it is true exactly where the marked graph has a token.
-- Assumes nothing.
use Rattle.std.specs.Prelude.{◌≡◌, true, List, ◌↔◌, ℕ, ◌<◌}
use Rattle.std.proofs.Math.Path.{sym, ap, ap₂}
use Rattle.std.proofs.Common.{◌∙◌}
use Rattle.std.proofs.Math.Logic.Iff
use Rattle.loops.specs.Choice.{at}
use Rattle.loops.specs.Sum.{sum}
use Rattle.net.specs.Processes.{Next}
use Rattle.net.specs.Tables.{graph_of_tables}
use Rattle.net.specs.Seating.{seats_of}
use Rattle.counting.specs.Modular.{less_earlier, finds}
use Rattle.plan.specs.declared.Plan.{Plan}
use Rattle.plan.specs.Value.{graph_of, node_at, Synchronising, share, counter_sum}
use Rattle.plan.specs.Tests.{home, seat}
use Rattle.judge.specs.Sound.{Sound}
use Rattle.state.specs.declared.State.{State}
use Rattle.formula.specs.Lists.{shares_in, earlier_in, b_in}
use Rattle.machine.specs.Calls.{b_of, edge_found}
use Rattle.follow.specs.Beside.{b, finds_edge, look_exact}
use Rattle.follow.specs.PlanSeats.{shaped, seats, home_seat, between, sum_at_end, counters}
use Rattle.follow.specs.Meaning.{tokens_after}
use Rattle.follow.specs.StandsFor.{Follows}

module _ (pl : Plan) (sound : Sound pl) where
  -- b(x) is the one of `Beside`
  b_is : (st : State) (v : ℕ) → v < (graph_of pl).nodes → b_of pl st v ≡ b (graph_of pl) (seats pl sound) (counters pl sound) (at st.counters) v
  unfolding b_of b_in earlier_in shares_in home seat node_at counters seats seats_of
  b_is st v h =
      let own = at pl.counter v in
      let t = home_seat pl sound v h in
      ap (less_earlier pl.modulus (at st.counters own)) (ap₂ (λ p k. sum (λ j. share pl.counter pl.increment own (node_at pl p j)) k) t.0 t.1)

  -- so is the test
  pub edge_found_is : (st : State) (e : ℕ) → e < (graph_of pl).edges
      → (edge_found pl st e ≡ true) ↔ finds_edge (graph_of pl) (seats pl sound) (counters pl sound) (at st.counters) e
  unfolding edge_found counters graph_of graph_of_tables
  edge_found_is st e h =
      let same =
      ap (λ q. finds q pl.modulus (at pl.tokens e) (b_of pl st (at pl.destination e)) (b_of pl st (at pl.source e))) (sym (sum_at_end pl sound e (at pl.destination e) ((shaped pl sound).destination_lt e h)))
      ∙ ap₂ (finds (counter_sum pl (at pl.counter (at pl.destination e))) pl.modulus (at pl.tokens e)) (b_is st (at pl.destination e) ((shaped pl sound).destination_lt e h))
      (b_is st (at pl.source e) ((shaped pl sound).source_lt e h)) in
      (λ t. sym same ∙ t, λ t. same ∙ t)

  module _ (st : State) (s : List ℕ) (f : Follows pl sound st s) where
    -- a look at an edge to see of a process's next node finds exactly where the marked graph has a token
    pub found_exactly : (e : ℕ) → Synchronising pl e → Next (graph_of pl) (seats pl sound) (at st.positions) ((graph_of pl).destination e)
        → (edge_found pl st e ≡ true) ↔ (0 < tokens_after pl s e)
    unfolding graph_of graph_of_tables
    found_exactly e y next =
        Iff.trans (edge_found_is st e y.known)
        (look_exact (graph_of pl) (seats pl sound) (counters pl sound) (shaped pl sound) f.stands e y.known (between pl sound e y) next)
