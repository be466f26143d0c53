-- Every legal firing order of the marked graph is the firings of a list of calls of which none is refused and none waits.
-- Assumes nothing.
use Rattle.std.specs.Prelude.{◌≡◌, refl, ℕ, ◌+◌, ◌<◌}
use Rattle.std.proofs.Common.{sym, ap₂, ◌∙◌, arith}
use Rattle.std.proofs.Math.Path.{ap, subst}
use mathlib.Core.List.{List, [], ◌∷◌, ◌++◌}
use Rattle.net.specs.Graph.{Fireable, fire, after, Legal, Emptiest, Linked, firings}
use Rattle.net.specs.Append.{after_append}
use Rattle.net.specs.Lead.{Ahead}
use Rattle.net.proofs.Lead as lead
use Rattle.plan.specs.declared.Plan.{Plan}
use Rattle.plan.specs.Value.{graph_of}
use Rattle.judge.specs.Sound.{Sound}
use Rattle.state.specs.declared.State.{State}
use Rattle.machine.specs.States.{next_node, fresh}
use Rattle.machine.specs.Runs.{Call, replies, last_state, fired_in, run_firings}
use Rattle.follow.specs.Bounds.{AllInBounds}
use Rattle.follow.specs.PlanSeats.{shaped, every_cycle_holds}
use Rattle.follow.specs.Meaning.{tokens_after}
use Rattle.follow.specs.StandsFor.{Follows, fresh_follows}
use Rattle.follow.specs.Follows.{run_follows}
use Rattle.follow.specs.RunLaws.{replies_append, run_firings_append}
use Rattle.follow.specs.DriveCalls.{drive, AllGo, Driven, Reached}
use Rattle.follow.specs.InBounds.{bounds_append}
use Rattle.follow.specs.Driven.{AllGo_append, fireable_next}
use Rattle.follow.proofs.Driven.{driven, yet_to_see}

module _ (pl : Plan) (sound : Sound pl) where
  -- calls that fire v, and calls that fire t after them
  both : (st : State) (v : ℕ) (t : List ℕ) (cs : List Call) → AllInBounds pl cs → run_firings pl st cs ≡ v ∷ [] → AllGo (replies pl st cs)
      → Reached pl (last_state pl st cs) t → Reached pl st (v ∷ t)
  both st v t cs bounds fires goes r =
      record {
        calls = cs ++ r.calls;
        bounds = bounds_append pl cs r.calls bounds r.bounds;
        fires = run_firings_append pl cs r.calls st ∙ ap₂ ◌++◌ fires r.fires;
        goes = subst AllGo (sym (replies_append pl cs r.calls st)) (AllGo_append (replies pl st cs) (replies pl (last_state pl st cs) r.calls) goes r.goes);
      }

  -- the tokens after one firing more
  tokens_on_from : (s : List ℕ) (v : ℕ)
      → tokens_after pl (s ++ (v ∷ [])) ≡ fire (graph_of pl) v (tokens_after pl s)
  unfolding after
  tokens_on_from s v = after_append (graph_of pl) (graph_of pl).tokens s (v ∷ [])

  -- from a state that stands for s, every order that is legal after s is reached
  pub reached_from : (t : List ℕ) (st : State) (s : List ℕ) → Follows pl sound st s
      → Legal (graph_of pl) (tokens_after pl s) t → Reached pl st t
  unfolding Legal run_firings replies fired_in AllGo AllInBounds
  reached_from [] st s f l = record { calls = []; bounds = tt; fires = refl; goes = tt }
  reached_from (v ∷ t) st s f l =
      let next = fireable_next pl sound st s f v l.0 l.1 in
      let p = next.0 in
      let es = yet_to_see pl sound st s f p next.1 in
      let d : Driven pl st p (next_node pl st p) es.0 =
      driven pl sound st s f p next.1 (subst (Fireable (graph_of pl) (tokens_after pl s)) (sym next.2) l.1) es.0 es.1 in
      let cs = drive st p es.0 in
      let fires : run_firings pl st cs ≡ v ∷ [] = d.fires ∙ ap (◌∷ []) next.2 in
      let g : Follows pl sound (last_state pl st cs) (s ++ (v ∷ [])) =
      subst (λ u. Follows pl sound (last_state pl st cs) (s ++ u)) fires (run_follows pl sound cs st s f) in
      both st v t cs d.bounds fires d.goes
      (reached_from t (last_state pl st cs) (s ++ (v ∷ [])) g (subst (λ μ. Legal (graph_of pl) μ t) (sym (tokens_on_from s v)) l.2))

  -- so is every legal order from a fresh state
  pub every_order_reached : (t : List ℕ) → Legal (graph_of pl) (graph_of pl).tokens t → Reached pl fresh t
  unfolding after
  every_order_reached t l = reached_from t fresh [] (fresh_follows pl sound) l

  -- so is one in which n fires k times and m not at all
  pub ahead_by_calls : (m n k : ℕ) → Ahead (graph_of pl) (graph_of pl).tokens m n k
      → (cs : List Call) × AllInBounds pl cs × (firings n (run_firings pl fresh cs) ≡ k) × (firings m (run_firings pl fresh cs) ≡ 0)
  ahead_by_calls m n k t =
      let r = every_order_reached t.0 t.1 in
      (r.calls, r.bounds, ap (firings n) r.fires ∙ t.3, ap (firings m) r.fires ∙ t.2)

  module _ (m n : ℕ) (h : n < (graph_of pl).nodes) where
    -- n gets ahead of m by the tokens of the emptiest route
    pub lead_by_calls : (d : ℕ) → Emptiest (graph_of pl) (graph_of pl).tokens m n d
        → (cs : List Call) × AllInBounds pl cs × (firings n (run_firings pl fresh cs) ≡ firings m (run_firings pl fresh cs) + d)
    lead_by_calls d a =
        let t = ahead_by_calls m n d (lead.lead_reached (graph_of pl) (graph_of pl).tokens (shaped pl sound) (every_cycle_holds pl sound) m n h d a) in
        (t.0, t.1, omega (arith, t.2, t.3))

    -- and as far as one likes where no route leads from m to n
    pub free_by_calls : (Linked (graph_of pl) m n → ⊥) → (k : ℕ)
        → (cs : List Call) × AllInBounds pl cs × (firings n (run_firings pl fresh cs) ≡ k) × (firings m (run_firings pl fresh cs) ≡ 0)
    free_by_calls none k =
        ahead_by_calls m n k (lead.unlinked_free (graph_of pl) (graph_of pl).tokens (shaped pl sound) (every_cycle_holds pl sound) m n h none k)
