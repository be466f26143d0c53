-- The machine's run of an accepted plan, beside the marked graph fired in the same order: what every list of calls keeps.
-- Assumes nothing.
use Rattle.std.specs.Prelude.{◌≡◌, ◌≢◌, ℕ, ◌<◌}
use Rattle.std.proofs.Common.{sym}
use Rattle.std.proofs.Math.Path.{subst}
use mathlib.Core.List.{List, [], ◌∷◌, ◌++◌, append-nil, append_assoc}
use Rattle.loops.specs.Choice.{at}
use Rattle.plan.specs.declared.Plan.{Plan}
use Rattle.judge.specs.Sound.{Sound}
use Rattle.state.specs.declared.State.{State}
use Rattle.machine.specs.Answers.{Turned}
use Rattle.machine.specs.States.{mark, fresh}
use Rattle.machine.specs.Calls.{edge_found, marks_left, do_open, do_look, do_fire, refused}
use Rattle.machine.specs.Runs.{Call, turn, replies, last_state, fired_by, fired_in, run_firings}
use Rattle.machine.specs.ByTest.{if_either}
use Rattle.machine.specs.CallCases.{by_step}
use Rattle.follow.specs.StandsFor.{Follows, fresh_follows}
use Rattle.follow.specs.FollowsCalls.{open_follows, wait_follows, found_follows, fire_follows}

module _ (pl : Plan) (sound : Sound pl) where
  module _ (st : State) (s : List ℕ) (f : Follows pl sound st s) where
    -- what a result of a call is to be
    After : Turned → Type 0
    After t = Follows pl sound t.state (s ++ fired_by t.reply)

    -- no firing more
    same : {st' : State} → Follows pl sound st' s → Follows pl sound st' (s ++ [])
    same {st'} g = subst (Follows pl sound st') (sym (append-nil s)) g

    refused_follows : (number : ℕ) → After (refused number st)
    unfolding After refused fired_by
    refused_follows number = same f

    opens_follows : (p : ℕ) → p < pl.processes → at st.opened p ≡ 0 → After (do_open pl st p)
    unfolding After do_open fired_by
    opens_follows p h z = same (open_follows pl sound st s f p h)

    looks_follows : (p e : ℕ) → p < pl.processes → at st.opened p ≢ 0 → e < pl.edges → mark st p e ≡ 1 → After (do_look pl st p e)
    unfolding After do_look fired_by
    looks_follows p e h o k m =
        if_either After (edge_found pl st e) _ _ (λ t. same (found_follows pl sound st s f p e h k t)) (λ t. same (wait_follows pl sound st s f))

    fires_follows : (p : ℕ) → p < pl.processes → at st.opened p ≢ 0 → marks_left st p ≡ 0 → After (do_fire pl st p)
    unfolding After do_fire fired_by
    fires_follows p h o z = fire_follows pl sound st s f p h o z

    -- the state that a call leaves stands for the firings with the one that it answers, if any
    pub turn_follows : (c : Call) → Follows pl sound (turn pl st c).state (s ++ fired_by (turn pl st c).reply)
    unfolding turn After
    turn_follows c =
        by_step pl st After (λ number d. refused_follows number) opens_follows looks_follows fires_follows c.code c.process c.edge (λ y. refused_follows 25)

  -- so it is with every list of calls
  pub run_follows : (cs : List Call) (st : State) (s : List ℕ) → Follows pl sound st s → Follows pl sound (last_state pl st cs) (s ++ run_firings pl st cs)
  unfolding last_state run_firings replies fired_in
  run_follows [] st s f = subst (Follows pl sound st) (sym (append-nil s)) f
  run_follows (c ∷ cs) st s f =
      subst (Follows pl sound (last_state pl (turn pl st c).state cs)) (append_assoc s (fired_by (turn pl st c).reply) (run_firings pl (turn pl st c).state cs))
      (run_follows cs (turn pl st c).state (s ++ fired_by (turn pl st c).reply) (turn_follows st s f c))

  -- from a fresh state: the state stands for the run's firings
  pub reached_follows : (cs : List Call) → Follows pl sound (last_state pl fresh cs) (run_firings pl fresh cs)
  reached_follows cs = run_follows cs fresh [] (fresh_follows pl sound)
