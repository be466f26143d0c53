-- Each export's promise leaves room for one answer, and that of `tamsklor_run_step` for one state afterwards.
-- Assumes nothing.
use Rattle.std.specs.Prelude.{◌≡◌, List, ℕ}
use Rattle.std.proofs.Common.{ap, ◌∙◌}
use Rattle.plan.specs.declared.Plan.{Plan}
use Rattle.plan.specs.Unique.{one_answer}
use Rattle.reader.specs.Tests.{verdict, read_of}
use Rattle.state.specs.declared.State.{State}
use Rattle.machine.specs.Calls.{begin_run, reading_call}
use Rattle.tamsklor.specs.declared.Verdict.{Verdict}
use Rattle.tamsklor.specs.declared.PlanRead.{PlanRead}
use Rattle.tamsklor.specs.declared.Begun.{Begun}
use Rattle.tamsklor.specs.declared.CallAnswer.{CallAnswer}
use Rattle.tamsklor.specs.declared.Stepped.{Stepped}
use Rattle.tamsklor.specs.declared.TokenAnswer.{TokenAnswer}
use Rattle.tamsklor.specs.Numbers.{numbers_of, numbers_of_read, numbers_of_begin, numbers_of_level, version, StepPromise}

pub check_unique : (s : List ℕ) {r r' : Verdict} → r ≡ numbers_of (verdict s) → r' ≡ numbers_of (verdict s) → r ≡ r'
check_unique s = one_answer

pub read_unique : (s : List ℕ) {r r' : PlanRead} → r ≡ numbers_of_read (read_of s) → r' ≡ numbers_of_read (read_of s) → r ≡ r'
read_unique s = one_answer

pub begin_unique : (pl : Plan) {r r' : Begun} → r ≡ numbers_of_begin (begin_run pl) → r' ≡ numbers_of_begin (begin_run pl) → r ≡ r'
begin_unique pl = one_answer

pub step_unique : (pl : Plan) (st : State) (code p e : ℕ) {r r' : CallAnswer} {after after' : State}
    → StepPromise pl st code p e r after → StepPromise pl st code p e r' after' → (r ≡ r') × (after ≡ after')
step_unique pl st code p e kept kept' = (one_answer kept.0 kept'.0, one_answer kept.1 kept'.1)

pub stepped_unique : (pl : Plan) (st : State) (code p e : ℕ) {r r' : Stepped}
    → StepPromise pl st code p e r.answer r.state → StepPromise pl st code p e r'.answer r'.state → r ≡ r'
stepped_unique pl st code p e {r} {r'} kept kept' =
    let q = step_unique pl st code p e kept kept' in
    ap (λ a. record { answer = a; state = r.state }) q.0 ∙ ap (λ s. record { answer = r'.answer; state = s }) q.1

pub tokens_unique : (pl : Plan) (st : State) (e : ℕ) {r r' : TokenAnswer} → r ≡ numbers_of_level (reading_call pl st e) → r' ≡ numbers_of_level (reading_call pl st e) → r ≡ r'
tokens_unique pl st e = one_answer

pub version_unique : {r r' : ℕ} → r ≡ version → r' ≡ version → r ≡ r'
version_unique = one_answer
