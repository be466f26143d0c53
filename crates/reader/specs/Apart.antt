-- The reader's answer in 01's words tells every two results apart. Assumes nothing.
use Rattle.std.specs.Prelude.{◌≡◌, List, ℕ}
use Rattle.std.proofs.Common.{ap, ap₂}
use Rattle.plan.specs.Unique.{one_answer}
use Rattle.judge.specs.Apart.{answered_one}
use Rattle.reader.specs.Answer.{ReadPlan, told}
use Rattle.reader.specs.Tests.{read_of}
use Rattle.reader.specs.declared.ReadPlan as code

pub told_one : (r r' : code.ReadPlan) → told r ≡ told r' → r ≡ r'
told_one r r' e =
    ap₂ (λ a p. record { answer = a; plan = p }) (answered_one r.answer r'.answer (ap (λ (x : ReadPlan). x.answer) e)) (ap (λ (x : ReadPlan). x.plan) e)

-- the promise of `read` leaves room for one result of the code
pub read_one : (s : List ℕ) {r r' : code.ReadPlan} → told r ≡ read_of s → told r' ≡ read_of s → r ≡ r'
read_one s {r} {r'} p q = told_one r r' (one_answer p q)
