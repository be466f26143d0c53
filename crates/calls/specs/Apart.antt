-- Each promise of the calls, in 01's words, leaves room for one result. Assumes nothing.
use Rattle.std.specs.Prelude.{◌≡◌, ℕ, Result}
use Rattle.std.proofs.Common.{ap, ap₂}
use Rattle.plan.specs.declared.Plan.{Plan}
use Rattle.plan.specs.Unique.{one_answer}
use Rattle.state.specs.declared.State.{State}
use Rattle.refusals.specs.declared.Reason.{Reason}
use Rattle.machine.specs.declared.Done.{Done}
use Rattle.machine.specs.Answers.{Turned, Began, replied, level_of}
use Rattle.machine.specs.Replies.{turned}
use Rattle.machine.specs.Apart.{replied_one, level_one}
use Rattle.machine.specs.Calls.{begin_run, open_call, look_call, fire_call, step_call, reading_call}
use Rattle.calls.specs.declared.Turned as code
use Rattle.calls.specs.declared.Began as begun
use Rattle.calls.specs.Answers.{turned_of, began_of}

pub turned_one : (t t' : code.Turned) → turned_of t ≡ turned_of t' → t ≡ t'
turned_one t t' e =
    ap₂ (λ r s. record { reply = r; state = s }) (replied_one t.reply t'.reply (ap (λ (x : Turned). x.reply) e)) (ap (λ (x : Turned). x.state) e)

pub began_one : (b b' : begun.Began) → began_of b ≡ began_of b' → b ≡ b'
began_one b b' e = ap₂ (λ n s. record { number = n; state = s }) (ap (λ (x : Began). x.number) e) (ap (λ (x : Began). x.state) e)

-- the promise of each call leaves room for one result of the code
pub begin_one : (pl : Plan) {b b' : begun.Began} → began_of b ≡ begin_run pl → began_of b' ≡ begin_run pl → b ≡ b'
begin_one pl {b} {b'} p q = began_one b b' (one_answer p q)

module _ (pl : Plan) (st : State) where
  pub open_one : (p : ℕ) {t t' : code.Turned} → turned_of t ≡ open_call pl st p → turned_of t' ≡ open_call pl st p → t ≡ t'
  open_one p {t} {t'} a b = turned_one t t' (one_answer a b)

  pub look_one : (p e : ℕ) {t t' : code.Turned} → turned_of t ≡ look_call pl st p e → turned_of t' ≡ look_call pl st p e → t ≡ t'
  look_one p e {t} {t'} a b = turned_one t t' (one_answer a b)

  pub fire_one : (p : ℕ) {t t' : code.Turned} → turned_of t ≡ fire_call pl st p → turned_of t' ≡ fire_call pl st p → t ≡ t'
  fire_one p {t} {t'} a b = turned_one t t' (one_answer a b)

  pub step_one : (c p e : ℕ) {t t' : code.Turned} → turned_of t ≡ step_call pl st c p e → turned_of t' ≡ step_call pl st c p e → t ≡ t'
  step_one c p e {t} {t'} a b = turned_one t t' (one_answer a b)

  -- one answer and one state, where the state stands
  pub step_on_one : (c p e : ℕ) {r r' : Result Done Reason} {s s' : State} → turned (replied r) s ≡ step_call pl st c p e
      → turned (replied r') s' ≡ step_call pl st c p e → (r ≡ r') × (s ≡ s')
  step_on_one c p e {r} {r'} a b =
      let same = one_answer a b in
      (replied_one r r' (ap (λ (x : Turned). x.reply) same), ap (λ (x : Turned). x.state) same)

  pub reading_one : (e : ℕ) {r r' : Result ℕ Reason} → level_of r ≡ reading_call pl st e → level_of r' ≡ reading_call pl st e → r ≡ r'
  reading_one e {r} {r'} a b = level_one r r' (one_answer a b)
