-- The words in which a plan is answered tell every two results apart: a promise in these words leaves room for one. Assumes nothing.
use Rattle.std.specs.Prelude.{◌≡◌, ℕ, Result, Ok, Err}
use Rattle.std.proofs.Common.{ap, ap₂, arith, ◌∙◌}
use Rattle.plan.specs.declared.Refusal.{Refusal}
use Rattle.plan.specs.Apart.{refusal_one}
use Rattle.judge.specs.declared.Acceptance.{Acceptance}
use Rattle.plan.specs.declared.Plan.{Plan}
use Rattle.plan.specs.Unique.{one_answer}
use Rattle.judge.specs.Answer.{Accepted, Refused, answered}
use Rattle.judge.specs.Tests.{from_5, judged}

refused_number : {k p k' p' : ℕ} → Refused k p ≡ Refused k' p' → k ≡ k'
refused_number e = cc

refused_place : {k p k' p' : ℕ} → Refused k p ≡ Refused k' p' → p ≡ p'
refused_place e = cc

not_accepted : {k p q n m : ℕ} → Refused k p ≡ Accepted q n m → ⊥
not_accepted e = let z : ◌≡◌ {A = ℕ} 0 1 = cc in omega arith

not_refused : {k p q n m : ℕ} → Accepted q n m ≡ Refused k p → ⊥
not_refused e = let z : ◌≡◌ {A = ℕ} 0 1 = cc in omega arith

same_acceptance : {a b : Acceptance} → Accepted a.q a.modulus a.least ≡ Accepted b.q b.modulus b.least → a ≡ b
same_acceptance {a} {b} e =
    let q : a.q ≡ b.q = cc in
    let n : a.modulus ≡ b.modulus = cc in
    let m : a.least ≡ b.least = cc in
    ap₂ (λ x y. record { q = x; modulus = y; least = a.least }) q n ∙ ap (λ z. record { q = b.q; modulus = b.modulus; least = z }) m

pub answered_one : (r r' : Result Acceptance Refusal) → answered r ≡ answered r' → r ≡ r'
answered_one (Ok a) (Ok b) e = ap Ok (same_acceptance e)
answered_one (Ok a) (Err x) e = absurd (not_refused e)
answered_one (Err x) (Ok a) e = absurd (not_accepted e)
answered_one (Err x) (Err y) e = ap Err (refusal_one (refused_number e) (refused_place e))

-- the promises of `judge` and `from_5` leave room for one result of the code
pub judge_one : (pl : Plan) {r r' : Result Acceptance Refusal} → answered r ≡ judged pl → answered r' ≡ judged pl → r ≡ r'
judge_one pl {r} {r'} p q = answered_one r r' (one_answer p q)

pub from_5_one : (pl : Plan) {r r' : Result Acceptance Refusal} → answered r ≡ from_5 pl → answered r' ≡ from_5 pl → r ≡ r'
from_5_one pl {r} {r'} p q = answered_one r r' (one_answer p q)
