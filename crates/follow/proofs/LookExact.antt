-- What a look answers: found exactly where the marked graph has a token, wait exactly where it has none, with the marks that are left.
-- Assumes nothing.
use Rattle.std.specs.Prelude.{◌≡◌, refl, true, false, List, ◌↔◌, ℕ, ◌<◌}
use Rattle.std.proofs.Common.{sym, ap, ◌∙◌, arith}
use Rattle.std.proofs.Math.Path.{subst}
use Rattle.std.proofs.Math.Decide.{dec_lt}
use Rattle.loops.specs.Choice.{true_false}
use Rattle.plan.specs.declared.Plan.{Plan}
use Rattle.judge.specs.Sound.{Sound}
use Rattle.state.specs.declared.State.{State}
use Rattle.machine.specs.Answers.{Found, Wait}
use Rattle.machine.specs.Answers.{Turned}
use Rattle.machine.specs.States.{mark}
use Rattle.machine.specs.Calls.{edge_found, marks_left, do_look}
use Rattle.machine.specs.Runs.{Call, turn}
use Rattle.machine.specs.ByTest.{if_either}
use Rattle.machine.specs.Replies.{same_found, same_wait, found_not_wait}
use Rattle.machine.specs.CallCases.{look_turn, look_accepted}
use Rattle.machine.specs.Exactly.{marks_stay}
use Rattle.machine.specs.ShapeKept.{kept_fits}
use Rattle.follow.specs.PlanSeats.{tables}
use Rattle.follow.specs.Meaning.{tokens_after, LookExact}
use Rattle.follow.specs.StandsFor.{Follows}
use Rattle.follow.specs.EdgeTest.{found_exactly}
use Rattle.follow.specs.LookExact.{end_next}

-- an answer found beside a token, and an answer wait beside none
module _ (tokens p : ℕ) (t : Turned) where
  found_exact : t.reply ≡ Found (marks_left t.state p) → 0 < tokens → LookExact tokens p t
  found_exact q l =
      record {
        found = (λ w. l, λ y. (marks_left t.state p, q));
        waits = (λ w. absurd (found_not_wait q w.1), λ z. absurd (omega arith));
        found_left = λ left r. same_found q r;
        wait_left = λ left r. absurd (found_not_wait q r);
      }

  wait_exact : t.reply ≡ Wait (marks_left t.state p) → tokens ≡ 0 → LookExact tokens p t
  wait_exact q z =
      record {
        found = (λ w. absurd (found_not_wait w.1 q), λ l. absurd (omega arith));
        waits = (λ w. z, λ y. (marks_left t.state p, q));
        found_left = λ left r. absurd (found_not_wait r q);
        wait_left = λ left r. same_wait q r;
      }

-- a test that is true exactly where a token stands makes an exact look
exact_look : (pl : Plan) (st : State) (p e tokens : ℕ) → (edge_found pl st e ≡ true) ↔ (0 < tokens) → LookExact tokens p (do_look pl st p e)
unfolding do_look
exact_look pl st p e tokens exactly =
    if_either (LookExact tokens p) (edge_found pl st e) _ _ (λ t. found_exact tokens p _ refl (exactly.0 t))
    (λ t. wait_exact tokens p _ (ap Wait (sym (marks_stay st p))) (none t))
  where
    none : edge_found pl st e ≡ false → tokens ≡ 0
    none t = elim (dec_lt 0 tokens) [ yes l ↦ absurd (true_false (sym (exactly.1 l) ∙ t)) | no l ↦ omega arith ]

module _ (pl : Plan) (sound : Sound pl) (st : State) (s : List ℕ) (f : Follows pl sound st s) where
  -- a look at a marked edge
  pub look_is_exact : (c : Call) → c.code ≡ 1 → c.process < pl.processes → c.edge < 512 → mark st c.process c.edge ≡ 1
      → LookExact (tokens_after pl s c.edge) c.process (turn pl st c)
  look_is_exact c z h k m =
      let p = c.process in
      let e = c.edge in
      let means = (f.kept.parts.marks p (omega (arith, (tables pl sound).counts)) e k).means (λ y. omega arith) in
      let is_look = look_turn pl st (kept_fits pl sound.shape st f.kept) c z ∙ look_accepted pl st p h e (λ y. omega (arith, means.is_open)) means.synchronising.known m in
      subst (LookExact (tokens_after pl s e) p) (sym is_look)
      (exact_look pl st p e (tokens_after pl s e) (found_exactly pl sound st s f e means.synchronising (end_next pl sound st s f p e h means.next)))
