-- Runs one after the other, and a call in front.
-- Assumes nothing.
use Rattle.std.specs.Prelude.{◌≡◌}
use Rattle.std.proofs.Math.Path.{refl, ap}
use Rattle.std.proofs.Common.{sym, ◌∙◌}
use mathlib.Core.List.{List, [], ◌∷◌, ◌++◌, append_assoc}
use Rattle.plan.specs.declared.Plan.{Plan}
use Rattle.state.specs.declared.State.{State}
use Rattle.machine.specs.Answers.{Reply}
use Rattle.machine.specs.Answers.{Turned}
use Rattle.machine.specs.Runs.{Call, turn, replies, last_state, fired_by, fired_in, run_firings}

-- the firings that two lists of answers say
pub fired_in_append : (rs ts : List Reply) → fired_in (rs ++ ts) ≡ fired_in rs ++ fired_in ts
unfolding fired_in
fired_in_append [] ts = refl
fired_in_append (r ∷ rs) ts = ap (fired_by r ++◌) (fired_in_append rs ts) ∙ sym (append_assoc (fired_by r) (fired_in rs) (fired_in ts))

module _ (pl : Plan) where
  -- the answers to two lists of calls
  pub replies_append : (cs ds : List Call) (st : State) → replies pl st (cs ++ ds) ≡ replies pl st cs ++ replies pl (last_state pl st cs) ds
  unfolding replies last_state
  replies_append [] ds st = refl
  replies_append (c ∷ cs) ds st = ap ((turn pl st c).reply ∷◌) (replies_append cs ds (turn pl st c).state)

  -- a call whose result is known
  pub replies_first : (c : Call) (cs : List Call) (st : State) (t : Turned) → turn pl st c ≡ t → replies pl st (c ∷ cs) ≡ t.reply ∷ replies pl t.state cs
  unfolding replies
  replies_first c cs st t e = ap (λ t. t.reply ∷ replies pl t.state cs) e

  -- and the state after it
  pub last_first : (c : Call) (cs : List Call) (st : State) (t : Turned) → turn pl st c ≡ t → last_state pl st (c ∷ cs) ≡ last_state pl t.state cs
  unfolding last_state
  last_first c cs st t e = ap (λ t. last_state pl t.state cs) e

  -- no calls have no answers
  pub replies_none : (st : State) → replies pl st [] ≡ []
  unfolding replies
  replies_none st = refl

  -- and leave the state
  pub last_none : (st : State) → last_state pl st [] ≡ st
  unfolding last_state
  last_none st = refl

  -- the firings of two lists of calls
  pub run_firings_append : (cs ds : List Call) (st : State) → run_firings pl st (cs ++ ds) ≡ run_firings pl st cs ++ run_firings pl (last_state pl st cs) ds
  unfolding run_firings
  run_firings_append cs ds st = ap fired_in (replies_append cs ds st) ∙ fired_in_append (replies pl st cs) (replies pl (last_state pl st cs) ds)
