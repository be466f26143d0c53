-- Statements: what is proved of the reader, for every list of bytes (01, "How much each promise says"; demand 2, first half).
-- Assumes nothing.
use Rattle.std.specs.Prelude.{◌≡◌, List, ◌⊎◌, ◌↔◌, ℕ, ◌≤◌}
use Rattle.std.proofs.Math.Path.{refl, ap}
use Rattle.std.proofs.Common.{sym, ◌∙◌, subst, inl, inr}
use Rattle.plan.specs.Value.{counter_sum, Synchronising}
use Rattle.plan.specs.Unique.{one_answer}
use Rattle.plan.specs.Order.{FirstFault}
use Rattle.plan.specs.Chain.{first_number}
use Rattle.judge.specs.Answer.{Accepted, Refused}
use Rattle.judge.specs.Conditions.{LeastModulus}
use Rattle.judge.specs.Sound.{Upheld, Sound}
use Rattle.judge.specs.Tests.{least_modulus}
use Rattle.judge.specs.Decided.{accepted, not_accepted}
use Rattle.judge.proofs.Theorems as judge
use Rattle.reader.specs.Answer.{ReadPlan}
use Rattle.image.specs.Image.{plan_of}
use Rattle.reader.specs.Faults.{image_order}
use Rattle.reader.specs.Layout.{Layout}
use Rattle.reader.specs.Tests.{verdict, no_plan, plan_beside, read_of, IsAccepted}
use Rattle.reader.specs.Decided.{outcome, none_exactly, each_number_of_image}

module _ (s : List ℕ) where
  -- an accepted image is answered Q, N and the least modulus
  pub accepted_numbers : (q modulus least : ℕ) → verdict s ≡ Accepted q modulus least
      → (q ≡ counter_sum (plan_of s) 0) × (modulus ≡ (plan_of s).modulus) × (least ≡ least_modulus (plan_of s))
  accepted_numbers q modulus least e =
      elim (outcome s).one_of [
        | inl a ↦ (cc, cc, cc)
        | inr r ↦ absurd (not_accepted r.0 r.1 q modulus least (sym r.2 ∙ e))
      ]

  -- "Every plan image … is answered": accepted, or refused with a number from 1 to 16 and a place
  pub answered : IsAccepted s ⊎ ((k p : ℕ) × (verdict s ≡ Refused k p) × (1 ≤ k) × (k ≤ 16))
  answered =
      elim (outcome s).one_of [
        | inl a ↦ inl (_, _, _, a)
        | inr r ↦
            let few = first_number _ _ (each_number_of_image s) r.0 r.1 (((outcome s).refused_first r.0 r.1).0 r.2) in
            inr (r.0, r.1, r.2, few.0, few.1)
      ]

  is_accepted : IsAccepted s → verdict s ≡ accepted (plan_of s)
  is_accepted a =
      elim (outcome s).one_of [
        | inl h ↦ h
        | inr r ↦ absurd (not_accepted r.0 r.1 a.0 a.1 a.2 (sym r.2 ∙ a.3))
      ]

  -- "A plan is accepted exactly when its layout and Lamport's conditions C0 to C4, as document 01 lists them, hold."
  pub accepted_exactly : IsAccepted s ↔ (Layout s × Upheld (plan_of s))
  accepted_exactly = (
    λ a. (none_exactly s).0 ((outcome s).final_clean.0 (is_accepted a)),
    λ h. (_, _, _, (outcome s).final_clean.1 ((none_exactly s).1 h)),
  )

  -- "The lowest number that applies is given; within it the lowest place.": the first of the order, in which numbers rise
  pub refused_first : (k p : ℕ) → (verdict s ≡ Refused k p) ↔ FirstFault (image_order s) k p
  refused_first = (outcome s).refused_first

  -- "the least modulus: the smallest N that would pass 15 and 16 (Q where no edge synchronises)"
  pub least_is_least : (q modulus least : ℕ) → verdict s ≡ Accepted q modulus least
      → LeastModulus (plan_of s) least × (((e : ℕ) → Synchronising (plan_of s) e → ⊥) → least ≡ q)
  least_is_least q modulus least e =
      let n = accepted_numbers q modulus least e in
      let h = accepted_exactly.0 (q, modulus, least, e) in
      let t = h.0.tables in (
        subst (LeastModulus (plan_of s)) (sym n.2) (judge.least_is_least (plan_of s) t h.1),
        λ alone. n.2 ∙ judge.least_alone (plan_of s) t h.1 alone ∙ sym n.0,
      )

  -- the plan value's Q is counter 0's sum
  pub q_is : (plan_of s).q ≡ counter_sum (plan_of s) 0
  unfolding plan_of counter_sum
  q_is = refl

  -- an accepted plan is in shape, and sound
  pub accepted_sound : IsAccepted s → Sound (plan_of s)
  accepted_sound a = let h = accepted_exactly.0 a in judge.sound (plan_of s) h.0.tables h.1 q_is

  -- "the plan's tables stand beside it, with 0 past the counts, and all 0 after a refusal"
  pub nothing_of_the_plan : (k p : ℕ) → verdict s ≡ Refused k p → (read_of s).plan ≡ no_plan
  unfolding read_of plan_beside
  nothing_of_the_plan k p e = ap (λ a. plan_beside a (plan_of s)) e

  pub all_of_the_plan : IsAccepted s → (read_of s).plan ≡ plan_of s
  unfolding read_of plan_beside
  all_of_the_plan a = ap (λ b. plan_beside b (plan_of s)) a.3

  pub answer_is : (read_of s).answer ≡ verdict s
  unfolding read_of
  answer_is = refl

-- the promise of `read` leaves room for one answer and one plan
pub read_unique : (s : List ℕ) {r r' : ReadPlan} → r ≡ read_of s → r' ≡ read_of s → r ≡ r'
read_unique s = one_answer
