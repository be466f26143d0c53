-- What is handed to C in numbers is told back by them, so that two different answers have different numbers.
-- Assumes nothing.
use Rattle.std.specs.Prelude.{◌≡◌, refl, List, ◌⊎◌, ◌≢◌, ℕ}
use Rattle.std.proofs.Math.Path.{sym, ap, ap₂}
use Rattle.std.proofs.Common.{◌∙◌, arith, eq-eqb, ne_eqb}
use Rattle.std.proofs.Math.Logic.{inl, inr}
use Rattle.loops.specs.Choice.{if, if_true, if_false}
use Rattle.plan.specs.declared.Plan.{Plan}
use Rattle.judge.specs.Answer as answer
use Rattle.image.specs.Image.{plan_of}
use Rattle.reader.specs.Tests.{verdict, plan_beside, read_of}
use Rattle.reader.specs.Theorems as reader
use Rattle.state.specs.declared.State.{State}
use Rattle.machine.specs.Answers.{Reply}
use Rattle.machine.specs.Answers.{Opened, Found, Wait, Fired, Refused}
use Rattle.machine.specs.Answers.{Turned}
use Rattle.machine.specs.Answers.{Level}
use Rattle.machine.specs.Answers.{Tokens, Unread}
use Rattle.machine.specs.Answers.{Began}
use Rattle.machine.specs.Calls.{reading_in_shape, reading_call}
use Rattle.machine.specs.ByTest.{if_either}
use Rattle.tamsklor.specs.declared.Verdict.{Verdict}
use Rattle.tamsklor.specs.declared.Begun.{Begun}
use Rattle.tamsklor.specs.Numbers.{numbers_of, beside_plan, numbers_of_read, numbers_of_begin, numbers_of_reply, numbers_of_level}
use Rattle.demands_c.specs.InNumbers.{told_reply, told_level, told_answer, told_read, RefusedAlike, AcceptedAlike}

-- ---- a call's answer
pub reply_told : (r : Reply) → told_reply (numbers_of_reply r) ≡ r
unfolding told_reply numbers_of_reply if
reply_told (Opened k) = refl
reply_told (Found k) = refl
reply_told (Wait k) = refl
reply_told (Fired v) = refl
reply_told (Refused k) = refl

-- with the state beside it
pub same_turned : {t t' : Turned} → t.reply ≡ t'.reply → t.state ≡ t'.state → t ≡ t'
same_turned {t} {t'} q h = ap (λ r. record { reply = r; state = t.state }) q ∙ ap (λ st. record { reply = t'.reply; state = st }) h

-- each kind tells its answer
module _ (r : Reply) where
  told : {x : Reply} → told_reply (numbers_of_reply r) ≡ x → r ≡ x
  told q = sym (reply_told r) ∙ q

  pub kind_found : (numbers_of_reply r).kind ≡ 2 → r ≡ Found (numbers_of_reply r).value
  unfolding told_reply if
  kind_found k = told (rw k refl)

  pub kind_wait : (numbers_of_reply r).kind ≡ 3 → r ≡ Wait (numbers_of_reply r).value
  unfolding told_reply if
  kind_wait k = told (rw k refl)

  pub kind_fired : (numbers_of_reply r).kind ≡ 4 → r ≡ Fired (numbers_of_reply r).value
  unfolding told_reply if
  kind_fired k = told (rw k refl)

-- ---- a token reading
-- it is told back by its numbers
unfoldable Back : Level → Type 0
Back l = told_level (numbers_of_level l) ≡ l

read_back : (k : ℕ) → Back (Tokens k)
unfolding Back told_level numbers_of_level if
read_back k = refl

-- a refusal's number is not 0
unread_back : (k : ℕ) → k ≢ 0 → Back (Unread k)
unfolding Back told_level numbers_of_level
unread_back k d = if_false _ _ _ (ne_eqb k 0 d)

back_25 : Back (Unread 25)
back_25 = unread_back 25 (λ q. omega arith)

back_27 : Back (Unread 27)
back_27 = unread_back 27 (λ q. omega arith)

reading_back : (pl : Plan) (st : State) (e : ℕ) → Back (reading_call pl st e)
unfolding reading_call reading_in_shape
reading_back pl st e =
    if_either Back _ _ _ (λ t. if_either Back _ _ _ (λ u. back_27) (λ u. if_either Back _ _ _ (λ w. read_back _) (λ w. back_27))) (λ t. back_25)

pub level_told : (pl : Plan) (st : State) (e : ℕ) → told_level (numbers_of_level (reading_call pl st e)) ≡ reading_call pl st e
unfolding Back
level_told = reading_back

-- ---- the reader's answer
-- an acceptance says three numbers
same_accepted : {q q' m m' l l' : ℕ} → q ≡ q' → m ≡ m' → l ≡ l' → answer.Accepted q m l ≡ answer.Accepted q' m' l'
same_accepted a b c = cc

module _ (s : List ℕ) where
  -- the number of an accepted image is 0
  pub accepted_number : (q modulus least : ℕ) → verdict s ≡ answer.Accepted q modulus least → numbers_of (verdict s) ≡ record { number = 0; place = 0; least = least }
  unfolding numbers_of
  accepted_number q modulus least e = ap numbers_of e

  -- that of a refused one is its own
  pub refused_number : (k p : ℕ) → verdict s ≡ answer.Refused k p → numbers_of (verdict s) ≡ record { number = k; place = p; least = 0 }
  unfolding numbers_of
  refused_number k p e = ap numbers_of e

  -- Q of an accepted plan value is the Q that is answered
  q_beside : (q modulus least : ℕ) → verdict s ≡ answer.Accepted q modulus least → (plan_of s).q ≡ q
  q_beside q modulus least e =
      (reader.accepted_sound s (q, modulus, least, e)).shape.q_is ∙ sym (reader.accepted_numbers s q modulus least e).0

  -- Q, N and the least modulus as C is handed them
  pub three_numbers : (q modulus least : ℕ) → verdict s ≡ answer.Accepted q modulus least
      → ((numbers_of_read (read_of s)).plan.q ≡ q) × ((numbers_of_read (read_of s)).plan.modulus ≡ modulus) × ((numbers_of_read (read_of s)).least ≡ least)
  unfolding numbers_of_read beside_plan read_of
  three_numbers q modulus least e =
      let beside : plan_beside (verdict s) (plan_of s) ≡ plan_of s = reader.all_of_the_plan s (q, modulus, least, e) in (
        ap (λ pl. pl.q) beside ∙ q_beside q modulus least e,
        ap (λ pl. pl.modulus) beside ∙ sym (reader.accepted_numbers s q modulus least e).1,
        ap (λ v. v.least) (accepted_number q modulus least e),
      )

  -- the number beside the plan is that of the answer
  number_is : (v : Verdict) → numbers_of (verdict s) ≡ v → (numbers_of_read (read_of s)).number ≡ v.number
  unfolding numbers_of_read beside_plan read_of
  number_is v q = ap (λ x. x.number) q

  order_position_is : (v : Verdict) → numbers_of (verdict s) ≡ v → (numbers_of_read (read_of s)).place ≡ v.place
  unfolding numbers_of_read beside_plan read_of
  order_position_is v q = ap (λ x. x.place) q

  -- what the reader answers is told back
  pub answer_told : told_answer (numbers_of_read (read_of s)) ≡ verdict s
  unfolding told_answer
  answer_told =
      elim (reader.answered s) [
        | inl a ↦
            let n = three_numbers a.0 a.1 a.2 a.3 in
            if_true _ _ _ (eq-eqb (numbers_of_read (read_of s)).number 0 (number_is _ (accepted_number a.0 a.1 a.2 a.3)))
            ∙ same_accepted n.0 n.1 n.2
            ∙ sym a.3
        | inr h ↦
            let k = number_is _ (refused_number h.0 h.1 h.2) in
            if_false _ _ _ (ne_eqb (numbers_of_read (read_of s)).number 0 (λ z. omega (arith, k, h.3)))
            ∙ ap₂ answer.Refused k (order_position_is _ (refused_number h.0 h.1 h.2))
            ∙ sym h.2
      ]

  pub read_told : told_read (numbers_of_read (read_of s)) ≡ read_of s
  unfolding told_read numbers_of_read beside_plan read_of
  read_told = ap (λ a. record { answer = a; plan = plan_beside (verdict s) (plan_of s) }) answer_told

-- ---- the plan check
-- equal numbers: both images are refused with one number and place, or both are accepted with one least modulus
pub verdicts_alike : (s t : List ℕ) → numbers_of (verdict s) ≡ numbers_of (verdict t) → RefusedAlike s t ⊎ AcceptedAlike s t
unfolding RefusedAlike AcceptedAlike
verdicts_alike s t same =
    elim (reader.answered s) [
      | inl a ↦
          elim (reader.answered t) [
            | inl b ↦
                let v = sym (accepted_number s a.0 a.1 a.2 a.3) ∙ same ∙ accepted_number t b.0 b.1 b.2 b.3 in
                let l : a.2 ≡ b.2 = ap (λ x. x.least) v in
                inr (a.2, (a.0, a.1, a.3), (b.0, b.1, b.3 ∙ ap (answer.Accepted b.0 b.1) (sym l)))
            | inr k ↦
                let v = sym (accepted_number s a.0 a.1 a.2 a.3) ∙ same ∙ refused_number t k.0 k.1 k.2 in
                absurd (omega (arith, ap (λ x. x.number) v, k.3))
          ]
      | inr h ↦
          elim (reader.answered t) [
            | inl b ↦
                let v = sym (refused_number s h.0 h.1 h.2) ∙ same ∙ accepted_number t b.0 b.1 b.2 b.3 in
                absurd (omega (arith, ap (λ x. x.number) v, h.3))
            | inr k ↦
                let v = sym (refused_number s h.0 h.1 h.2) ∙ same ∙ refused_number t k.0 k.1 k.2 in
                inl (h.0, h.1, h.2, k.2 ∙ sym (ap₂ answer.Refused (ap (λ x. x.number) v) (ap (λ x. x.place) v)))
          ]
    ]

-- ---- a beginning
pub begins_apart : (b b' : Began) → numbers_of_begin b ≡ numbers_of_begin b' → b ≡ b'
unfolding numbers_of_begin
begins_apart b b' q = ap (λ (x : Begun). record { number = x.number; state = x.state }) q
