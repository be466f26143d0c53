-- In every state that stands for a list of firings: what the calls of a drive do.
-- Assumes nothing.
use Rattle.std.specs.Prelude.{◌≡◌, refl, List, [], ◌∷◌, ◌++◌, ℕ, ◌<◌, eqb}
use Rattle.std.proofs.Common.{sym, ap₂, ◌∙◌, arith}
use Rattle.std.proofs.Math.Path.{ap, subst}
use Rattle.loops.specs.Choice.{at}
use Rattle.net.specs.Graph.{Fireable}
use Rattle.plan.specs.declared.Plan.{Plan}
use Rattle.plan.specs.Value.{graph_of}
use Rattle.judge.specs.Sound.{Sound}
use Rattle.state.specs.declared.State.{State}
use Rattle.machine.specs.Answers.{Opened, Fired}
use Rattle.machine.specs.States.{mark, next_node}
use Rattle.machine.specs.Runs.{Call, last_state, fired_by, fired_in, run_firings}
use Rattle.machine.specs.ByTest.{if_either}
use Rattle.machine.specs.ShapeKept.{run_kept}
use Rattle.follow.specs.PlanSeats.{tables}
use Rattle.follow.specs.Meaning.{tokens_after}
use Rattle.follow.specs.StandsFor.{Follows}
use Rattle.follow.proofs.Listed.{listed}
use Rattle.follow.specs.RunLaws.{fired_in_append}
use Rattle.follow.specs.DriveCalls.{to_open, to_fire, opening, looks, drive, YetToSee, opening_answers, look_answers, drive_answers, AllOf, Goes, AllGo, Driven}
use Rattle.follow.proofs.InBounds.{drive_bounds}
use Rattle.follow.proofs.Drive.{drive_replies}
use Rattle.follow.specs.Driven.{AllGo_append}

-- ---- laws of the calls and the answers of a drive
-- of two lists of calls
AllOf_append : (p : ℕ) (cs ds : List Call) → AllOf p cs → AllOf p ds → AllOf p (cs ++ ds)
unfolding AllOf
AllOf_append p [] ds a b = b
AllOf_append p (c ∷ cs) ds a b = (a.0, AllOf_append p cs ds a.1 b)

looks_all : (p : ℕ) (es : List ℕ) → AllOf p (looks p es)
unfolding AllOf looks
looks_all p [] = tt
looks_all p (e ∷ es) = (refl, looks_all p es)

-- every call of a drive is of the process
drive_all : (st : State) (p : ℕ) (es : List ℕ) → AllOf p (drive st p es)
unfolding AllOf drive opening
drive_all st p es =
    AllOf_append p (opening st p) (looks p es ++ (to_fire p ∷ []))
    (if_either (AllOf p) (eqb (at st.opened p) 0) (to_open p ∷ []) [] (λ t. (refl, tt)) (λ t. tt))
    (AllOf_append p (looks p es) (to_fire p ∷ []) (looks_all p es) (refl, tt))

looks_go : (es : List ℕ) → AllGo (look_answers es)
unfolding AllGo Goes look_answers
looks_go [] = tt
looks_go (e ∷ es) = (tt, looks_go es)

-- none is refused, and none waits
drive_goes : (st : State) (p : ℕ) (es : List ℕ) (v : ℕ) → AllGo (drive_answers st p es v)
unfolding AllGo Goes drive_answers opening_answers
drive_goes st p es v =
    AllGo_append (opening_answers st p es) (look_answers es ++ (Fired v ∷ []))
    (if_either AllGo (eqb (at st.opened p) 0) (Opened _ ∷ []) [] (λ t. (tt, tt)) (λ t. tt))
    (AllGo_append (look_answers es) (Fired v ∷ []) (looks_go es) (tt, tt))

looks_silent : (es : List ℕ) → fired_in (look_answers es) ≡ []
unfolding fired_in fired_by look_answers
looks_silent [] = refl
looks_silent (e ∷ es) = looks_silent es

-- the node fires, and no other
drive_fires : (st : State) (p : ℕ) (es : List ℕ) (v : ℕ) → fired_in (drive_answers st p es v) ≡ v ∷ []
unfolding fired_in fired_by drive_answers opening_answers
drive_fires st p es v =
    fired_in_append (opening_answers st p es) (look_answers es ++ (Fired v ∷ []))
    ∙ ap₂ ◌++◌ (if_either (λ rs. fired_in rs ≡ []) (eqb (at st.opened p) 0) (Opened _ ∷ []) [] (λ t. refl) (λ t. refl))
    (fired_in_append (look_answers es) (Fired v ∷ []))
    ∙ ap (◌++ (v ∷ [])) (looks_silent es)

module _ (pl : Plan) (sound : Sound pl) (st : State) (s : List ℕ) (f : Follows pl sound st s) where
  -- a process whose next node may fire is driven, with its edges in any order
  pub driven : (p : ℕ) → p < pl.processes → Fireable (graph_of pl) (tokens_after pl s) (next_node pl st p) → (es : List ℕ) → YetToSee pl st p es
      → Driven pl st p (next_node pl st p) es
  unfolding run_firings
  driven p h may es l =
      let answers = drive_replies pl sound s p h st f may es l in
      record {
        alone = drive_all st p es;
        bounds = drive_bounds pl (tables pl sound).counts p h st es (run_kept pl sound.shape (opening st p) st f.kept) l;
        answers = answers;
        goes = subst AllGo (sym answers) (drive_goes st p es (next_node pl st p));
        fires = ap fired_in answers ∙ drive_fires st p es (next_node pl st p);
      }

  -- there is an order of its edges
  pub yet_to_see : (p : ℕ) → p < pl.processes → (es : List ℕ) × YetToSee pl st p es
  yet_to_see p h =
      let kept = run_kept pl sound.shape (opening st p) st f.kept in
      listed (mark (last_state pl st (opening st p)) p) 512 (λ e k. (kept.parts.marks p (omega (arith, (tables pl sound).counts)) e k).flag)
