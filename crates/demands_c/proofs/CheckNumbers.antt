-- What the numbers of the plan check say of an image.
-- Assumes nothing.
use Rattle.std.specs.Prelude.{◌≡◌, List, ◌↔◌, ◌≢◌, ℕ, ◌≤◌}
use Rattle.std.proofs.Common.{sym, ap, ap₂, ◌∙◌, subst, inl, inr, arith}
use Rattle.plan.specs.Order.{FirstFault}
use Rattle.judge.specs.Answer.{Refused}
use Rattle.judge.specs.Conditions.{LeastModulus}
use Rattle.judge.specs.Sound.{Upheld}
use Rattle.image.specs.Image.{plan_of}
use Rattle.reader.specs.Faults.{image_order}
use Rattle.reader.specs.Layout.{Layout}
use Rattle.reader.specs.Tests.{verdict}
use Rattle.reader.specs.Theorems as reader
use Rattle.reader.specs.Tests.{IsAccepted}
use Rattle.tamsklor.specs.declared.Verdict.{Verdict}
use Rattle.tamsklor.specs.Numbers.{numbers_of}
use Rattle.demands_c.proofs.NumbersApart.{accepted_number, refused_number}

module _ (s : List ℕ) where
  -- what `tamsklor_plan_check` hands out
  abbrev handed : Verdict
  handed = numbers_of (verdict s)

  -- an accepted image has number and place 0
  accepted_is : (a : IsAccepted s) → handed ≡ record { number = 0; place = 0; least = a.2 }
  accepted_is a = accepted_number s a.0 a.1 a.2 a.3

  -- number 0 is an accepted image's, and no other
  pub accepted_zero : IsAccepted s → handed.number ≡ 0
  accepted_zero a = ap (λ v. v.number) (accepted_is a)

  pub zero_alone : handed.number ≡ 0 → IsAccepted s
  zero_alone z =
      elim (reader.answered s) [
        | inl a ↦ a
        | inr h ↦ absurd (omega (arith, z, ap (λ v. v.number) (refused_number s h.0 h.1 h.2), h.3))
      ]

  -- number 0 exactly where the image is accepted
  pub zero_accepted : (handed.number ≡ 0) ↔ IsAccepted s
  zero_accepted = (zero_alone, accepted_zero)

  -- that is where layout and conditions hold
  pub zero_exactly : (handed.number ≡ 0) ↔ (Layout s × Upheld (plan_of s))
  zero_exactly =
      let x = reader.accepted_exactly s in
      (λ z. x.0 (zero_alone z), λ h. accepted_zero (x.1 h))

  -- another number with its place exactly where they are the first fault
  pub first_fault : (k p : ℕ) → k ≢ 0 → ((handed.number ≡ k) × (handed.place ≡ p)) ↔ FirstFault (image_order s) k p
  first_fault k p some = (
    λ h.
        elim (reader.answered s) [
          | inl a ↦ absurd (some (sym h.0 ∙ ap (λ v. v.number) (accepted_is a)))
          | inr g ↦
              let v = refused_number s g.0 g.1 g.2 in
              (reader.refused_first s k p).0
              (g.2 ∙ ap₂ Refused (sym (ap (λ v. v.number) v) ∙ h.0) (sym (ap (λ v. v.place) v) ∙ h.1))
        ],
    λ f. let v = refused_number s k p ((reader.refused_first s k p).1 f) in (ap (λ v. v.number) v, ap (λ v. v.place) v),
  )

  -- there are 16 numbers
  pub number_most : handed.number ≤ 16
  number_most =
      elim (reader.answered s) [
        | inl a ↦ omega (arith, ap (λ v. v.number) (accepted_is a))
        | inr h ↦ omega (arith, ap (λ v. v.number) (refused_number s h.0 h.1 h.2), h.4)
      ]

  -- after number 0 the place is 0, and the least modulus is the smallest N that would pass 15 and 16
  pub place_none : handed.number ≡ 0 → handed.place ≡ 0
  place_none z = ap (λ v. v.place) (accepted_is (zero_alone z))

  pub least_there : handed.number ≡ 0 → LeastModulus (plan_of s) handed.least
  least_there z =
      let a = zero_alone z in
      subst (LeastModulus (plan_of s)) (sym (ap (λ v. v.least) (accepted_is a))) (reader.least_is_least s a.0 a.1 a.2 a.3).0

  -- after another it is 0
  pub least_none : handed.number ≢ 0 → handed.least ≡ 0
  least_none some =
      elim (reader.answered s) [
        | inl a ↦ absurd (some (accepted_zero a))
        | inr h ↦ ap (λ v. v.least) (refused_number s h.0 h.1 h.2)
      ]
