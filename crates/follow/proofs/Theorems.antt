-- The theorems about runs of an accepted plan that say what a look answers, and what calls reach (the others stand in specs/).
-- Assumes nothing.
use Rattle.std.specs.Prelude.{◌≡◌, List, ℕ, ◌+◌, ◌<◌}
use Rattle.std.proofs.Common.{arith}
use Rattle.net.specs.Graph.{firings, Fireable, Legal, Emptiest, Linked}
use Rattle.net.specs.Tables.{graph_of_tables}
use Rattle.net.proofs.Lead as lead
use Rattle.plan.specs.declared.Plan.{Plan}
use Rattle.plan.specs.Value.{graph_of}
use Rattle.judge.specs.Sound.{Sound}
use Rattle.machine.specs.States.{mark, next_node, fresh}
use Rattle.machine.specs.Runs.{Call, turn}
use Rattle.follow.specs.Bounds.{AllInBounds}
use Rattle.follow.specs.PlanSeats.{shaped, every_cycle_holds}
use Rattle.follow.specs.Meaning.{LookExact, state_after, fired_after, tokens_now}
use Rattle.follow.specs.StandsFor.{Follows}
use Rattle.follow.specs.Follows.{reached_follows}
use Rattle.follow.proofs.LookExact.{look_is_exact}
use Rattle.follow.specs.DriveCalls.{YetToSee, Driven, Reached}
use Rattle.follow.specs.Driven.{some_process}
use Rattle.follow.proofs.Driven as drives
use Rattle.follow.proofs.Reaches.{every_order_reached, ahead_by_calls, free_by_calls}

module _ (pl : Plan) (sound : Sound pl) (cs : List Call) where
  followed : Follows pl sound (state_after pl cs) (fired_after pl cs)
  followed = reached_follows pl sound cs

  -- a look at a marked edge finds exactly where the marked graph has a token, and waits exactly where it has none
  pub look_exact : (c : Call) → c.code ≡ 1 → c.process < pl.processes → c.edge < 512 → mark (state_after pl cs) c.process c.edge ≡ 1
      → LookExact (tokens_now pl cs c.edge) c.process (turn pl (state_after pl cs) c)
  look_exact = look_is_exact pl sound (state_after pl cs) (fired_after pl cs) followed

  -- a process whose next node may fire, called alone, fires it: one open if it is closed, one look at each edge that it has yet to see, in any
  -- order, each found, and one fire
  pub driven : (p : ℕ) → p < pl.processes → Fireable (graph_of pl) (tokens_now pl cs) (next_node pl (state_after pl cs) p)
      → (es : List ℕ) → YetToSee pl (state_after pl cs) p es → Driven pl (state_after pl cs) p (next_node pl (state_after pl cs) p) es
  driven = drives.driven pl sound (state_after pl cs) (fired_after pl cs) followed

  -- there is such a process, and an order of its edges
  pub progress : (p : ℕ) × (p < pl.processes) × Fireable (graph_of pl) (tokens_now pl cs) (next_node pl (state_after pl cs) p)
      × ((es : List ℕ) × YetToSee pl (state_after pl cs) p es × Driven pl (state_after pl cs) p (next_node pl (state_after pl cs) p) es)
  progress =
      let t = some_process pl sound (state_after pl cs) (fired_after pl cs) followed in
      let es = drives.yet_to_see pl sound (state_after pl cs) (fired_after pl cs) followed t.0 t.1 in
      (t.0, t.1, t.2, (es.0, es.1, driven t.0 t.1 t.2 es.0 es.1))

module _ (pl : Plan) (sound : Sound pl) where
  -- every legal firing order is the firings of some list of calls, each of a process and an edge of the plan, of which none is refused and none waits
  pub reaches : (t : List ℕ) → Legal (graph_of pl) (graph_of pl).tokens t → Reached pl fresh t
  reaches = every_order_reached pl sound

  -- the limit of `lead` is reached
  pub lead_reached : (m n d : ℕ) → n < pl.nodes → Emptiest (graph_of pl) (graph_of pl).tokens m n d
      → (cs : List Call) × AllInBounds pl cs × (firings n (fired_after pl cs) ≡ firings m (fired_after pl cs) + d)
  unfolding graph_of graph_of_tables
  lead_reached m n d h a =
      let t = ahead_by_calls pl sound m n d (lead.lead_reached (graph_of pl) (graph_of pl).tokens (shaped pl sound) (every_cycle_holds pl sound) m n h d a) in
      (t.0, t.1, omega (arith, t.2, t.3))

  -- where no route leads from m to n, n gets ahead of m as far as one likes
  pub unlinked_free : (m n : ℕ) → n < pl.nodes → (Linked (graph_of pl) m n → ⊥) → (k : ℕ)
      → (cs : List Call) × AllInBounds pl cs × (firings n (fired_after pl cs) ≡ k) × (firings m (fired_after pl cs) ≡ 0)
  unfolding graph_of graph_of_tables
  unlinked_free m n h = free_by_calls pl sound m n h
