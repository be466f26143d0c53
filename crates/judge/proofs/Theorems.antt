-- Statements: what is proved of the judge, for every plan value (01, "Numbers a plan can be turned down with"; faults 3 and 5 to 16).
-- Assumes nothing.
use Rattle.std.specs.Prelude.{◌≡◌, ◌⊎◌, ◌↔◌, ℕ, ◌≤◌}
use Rattle.std.proofs.Common.{sym, ◌∙◌, inl, inr}
use Rattle.plan.specs.declared.Plan.{Plan}
use Rattle.plan.specs.Value.{counter_sum, Synchronising}
use Rattle.plan.specs.Order.{FirstFault}
use Rattle.plan.specs.Tables.{Tabled}
use Rattle.plan.specs.Formed.{in_shape}
use Rattle.plan.specs.Chain.{first_number}
use Rattle.plan.specs.Unique.{one_answer}
use Rattle.judge.specs.Answer.{Answer}
use Rattle.judge.specs.Answer.{Accepted, Refused}
use Rattle.judge.specs.Conditions.{LeastModulus}
use Rattle.judge.specs.Sound.{Upheld, Sound}
use Rattle.judge.specs.Faults.{plan_order}
use Rattle.judge.specs.Tests.{least_modulus, judged, AcceptedPlan}
use Rattle.judge.specs.Exactly.{q_some}
use Rattle.judge.proofs.Exactly.{conditions_exactly}
use Rattle.judge.proofs.Least as least
use Rattle.judge.specs.Decided.{accepted, not_accepted, each_number}
use Rattle.judge.proofs.Decided.{judged_decided, clean_exactly}

module _ (pl : Plan) where
  -- every plan value is answered: accepted, or refused with 3 or a number from 5 to 16 and a place
  pub answered : AcceptedPlan pl ⊎ ((k p : ℕ) × (judged pl ≡ Refused k p) × (3 ≤ k) × (k ≤ 16))
  answered =
      elim (judged_decided pl).one_of [
        | inl a ↦ inl (_, _, _, a)
        | inr r ↦
            let few = first_number _ _ (each_number pl) r.0 r.1 (((judged_decided pl).refused_first r.0 r.1).0 r.2) in
            inr (r.0, r.1, r.2, few.0, few.1)
      ]

  -- an accepted plan is answered Q, N and the least modulus
  pub accepted_numbers : (q modulus least : ℕ) → judged pl ≡ Accepted q modulus least
      → (q ≡ counter_sum pl 0) × (modulus ≡ pl.modulus) × (least ≡ least_modulus pl)
  accepted_numbers q modulus least e =
      elim (judged_decided pl).one_of [
        | inl a ↦ (cc, cc, cc)
        | inr r ↦ absurd (not_accepted r.0 r.1 q modulus least (sym r.2 ∙ e))
      ]

  is_accepted : AcceptedPlan pl → judged pl ≡ accepted pl
  is_accepted a =
      elim (judged_decided pl).one_of [
        | inl h ↦ h
        | inr r ↦ absurd (not_accepted r.0 r.1 a.0 a.1 a.2 (sym r.2 ∙ a.3))
      ]

  -- a plan value is accepted exactly when its tables hold what 01's layout asks of them, its processes are processes, and C0 to C4 hold
  pub accepted_exactly : AcceptedPlan pl ↔ (Tabled pl × Upheld pl)
  accepted_exactly = (
    λ a. (clean_exactly pl).0 ((judged_decided pl).final_clean.0 (is_accepted a)),
    λ h. (_, _, _, (judged_decided pl).final_clean.1 ((clean_exactly pl).1 h)),
  )

  -- "The lowest number that applies is given; within it the lowest place.": the first of the order, in which numbers rise
  pub refused_first : (k p : ℕ) → (judged pl ≡ Refused k p) ↔ FirstFault (plan_order pl) k p
  refused_first = (judged_decided pl).refused_first

-- the numbers of a plan with its tables that upholds the conditions
module _ (pl : Plan) (t : Tabled pl) (u : Upheld pl) where
  -- Q is at least 1
  pub sum_some : 1 ≤ counter_sum pl 0
  sum_some = q_some pl t ((conditions_exactly pl t).1 u).none_12

  -- "the least modulus: the smallest N that would pass 15 and 16 (Q where no edge synchronises)"
  pub least_is_least : LeastModulus pl (least_modulus pl)
  least_is_least = least.least_is_least pl t sum_some ((conditions_exactly pl t).1 u).none_14

  pub least_alone : ((e : ℕ) → Synchronising pl e → ⊥) → least_modulus pl ≡ counter_sum pl 0
  least_alone = least.least_alone pl t sum_some ((conditions_exactly pl t).1 u).none_14

  -- with Q filled in it is in shape, and sound
  pub sound : pl.q ≡ counter_sum pl 0 → Sound pl
  sound is = record { shape = in_shape pl t is sum_some; upheld = u }

-- the promise of `judge` leaves room for one answer
pub judge_unique : (pl : Plan) {r r' : Answer} → r ≡ judged pl → r' ≡ judged pl → r ≡ r'
judge_unique pl = one_answer
