-- The reader's answer says which fault is the first, or that there is none; there is none exactly where the layout, the processes and C0 to C4 hold.
-- Assumes nothing.
use Rattle.std.specs.Prelude.{refl, List, ◌↔◌, ℕ, ◌≤◌, ltb, length}
use Rattle.std.proofs.Math.Logic.{inl, inr, ⊎_elim}
use native.Mathlib.Omega.{arith}
use Rattle.std.proofs.Math.Decide.{ℕ_discrete, dec_lt}
use Rattle.loops.specs.Choice.{true_or_false}
use Rattle.plan.specs.Order.{NoneOf}
use Rattle.plan.specs.Chain.{EachNumber, each_more, decides_if, decides_unless}
use Rattle.plan.specs.Passed.{test_3, counts_test}
use Rattle.plan.specs.Tests.{refuse_if}
use Rattle.judge.specs.Faults.{plan_order}
use Rattle.judge.specs.Sound.{Upheld}
use Rattle.judge.specs.Decided.{Decided, each_number}
use Rattle.judge.proofs.Decided.{decided_from_5, clean_exactly}
use Rattle.numerals.specs.LittleEndian.{two_bytes}
use Rattle.image.specs.Image.{tables_of, plan_of}
use Rattle.image.specs.Header.{good_format, good_offsets}
use Rattle.reader.specs.Faults.{Fault1, Fault2, Fault4, image_order}
use Rattle.reader.specs.Layout.{Layout}
use Rattle.reader.specs.Tests.{verdict}
use Rattle.reader.specs.HeaderFaults.{test_1, test_2, test_4, offsets_exactly}

module _ (s : List ℕ) where
  -- the answer of all tests
  pub outcome : Decided (plan_of s) (image_order s) (verdict s)
  unfolding verdict refuse_if image_order tables_of plan_of
  outcome =
      decides_if _ _ _ _ 1 _ _ (ltb (length s) 36) _ (test_1 s) (λ n1.
      decides_unless _ _ _ _ 2 _ _ (good_format s) _ (test_2 s) (λ n2.
      decides_if _ _ _ _ 3 _ _ (counts_test (plan_of s)) _ (test_3 (plan_of s)) (λ n3.
      decides_unless _ _ _ _ 4 _ _ (good_offsets s) _ (test_4 s) (λ n4. decided_from_5 (plan_of s) n3))))

  -- no fault stands anywhere exactly where the layout holds, the plan has its processes and C0 to C4 hold
  pub none_exactly : NoneOf (image_order s) ↔ (Layout s × Upheld (plan_of s))
  unfolding NoneOf image_order plan_order Fault1 Fault2 Fault4
  none_exactly = (
    λ n.
        let k = (clean_exactly (plan_of s)).0 (n.1.1.0, n.1.1.1.1) in (
          record {
            header = elim (dec_lt (length s) 36) [ yes p ↦ absurd (n.0 0 (refl, p)) | no p ↦ omega arith ];
            format_one = elim (ℕ_discrete (two_bytes s 0) 1) [ yes p ↦ p | no p ↦ absurd (n.1.0 0 (refl, inl p)) ];
            zero = elim (ℕ_discrete (two_bytes s 10) 0) [ yes p ↦ p | no p ↦ absurd (n.1.0 0 (refl, inr p)) ];
            offsets = elim (true_or_false (good_offsets s)) [
              | inl p ↦ (offsets_exactly s).0 p
              | inr p ↦ absurd (n.1.1.1.0 0 ((test_4 s 0).0 (refl, p)))
            ];
            tables = k.0;
          },
          k.1,
        ),
    λ h.
        let l : Layout s = h.0 in
        let n = (clean_exactly (plan_of s)).1 (l.tables, h.1) in (
          (λ p f. omega (arith, f.1, l.header)),
          ((λ p f. ⊎_elim (λ g. g l.format_one) (λ g. g l.zero) f.1), (n.0, ((λ p f. f.1 l.offsets), n.1))),
        ),
  )

  -- every number is from 1 to 16
  pub each_number_of_image : EachNumber (λ k. (1 ≤ k) × (k ≤ 16)) (image_order s)
  unfolding EachNumber image_order plan_order
  each_number_of_image =
      let rest = each_more (λ k. (3 ≤ k) × (k ≤ 16)) (λ k. (1 ≤ k) × (k ≤ 16)) (λ k h. (omega (arith, h.0), h.1)) (plan_order (plan_of s)) (each_number (plan_of s)) in
      ((omega arith, omega arith), ((omega arith, omega arith), (rest.0, ((omega arith, omega arith), rest.1))))
