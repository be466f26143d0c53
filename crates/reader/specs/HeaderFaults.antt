-- Tests 1, 2 and 4 are faults 1, 2 and 4.
-- Assumes nothing.
use Rattle.std.specs.Prelude.{◌≡◌, List, true, ◌⊎◌, ◌↔◌, ◌≢◌, ℕ, eqb, ltb, length}
use Rattle.std.proofs.Common.{sym, ◌∙◌}
use Rattle.std.proofs.Math.Bool.{false}
use Rattle.std.proofs.Math.Logic.{inl, inr}
use Rattle.std.proofs.Math.Decide.{ℕ_discrete}
use borrow.Author.Tests.{ltb-true, lt-ltb, eqb-true, eq-eqb}
use Rattle.loops.specs.Choice.{both, both_true, both_intro, true_false, not_true}
use Rattle.numerals.specs.LittleEndian.{two_bytes}
use Rattle.image.specs.Image.{OffsetsFit}
use Rattle.reader.specs.Faults.{Fault1, Fault2, Fault4}
use Rattle.image.specs.Header.{good_format, good_offsets, good_later_offsets}

module _ (s : List ℕ) where
  pub test_1 : (p : ℕ) → ((p ≡ 0) × (ltb (length s) 36 ≡ true)) ↔ Fault1 s p
  unfolding Fault1
  test_1 p = (λ h. (h.0, ltb-true _ _ h.1), λ f. (f.0, lt-ltb _ _ f.1))

  pub test_2 : (p : ℕ) → ((p ≡ 0) × (good_format s ≡ false)) ↔ Fault2 s p
  unfolding Fault2 good_format
  test_2 p = (λ h. (h.0, to h.1), λ f. (f.0, from f.1))
    where
      to : both (eqb (two_bytes s 0) 1) (eqb (two_bytes s 10) 0) ≡ false → (two_bytes s 0 ≢ 1) ⊎ (two_bytes s 10 ≢ 0)
      to h =
          elim (ℕ_discrete (two_bytes s 0) 1) [
            | no a ↦ inl a
            | yes a ↦
                elim (ℕ_discrete (two_bytes s 10) 0) [
                  | no b ↦ inr b
                  | yes b ↦ absurd (true_false (sym (both_intro _ _ (eq-eqb _ _ a) (eq-eqb _ _ b)) ∙ h))
                ]
          ]

      from : (two_bytes s 0 ≢ 1) ⊎ (two_bytes s 10 ≢ 0) → both (eqb (two_bytes s 0) 1) (eqb (two_bytes s 10) 0) ≡ false
      from (inl a) = not_true _ (λ h. a (eqb-true _ _ (both_true _ _ h).0))
      from (inr b) = not_true _ (λ h. b (eqb-true _ _ (both_true _ _ h).1))

  -- the offsets fit exactly where the test says so
  pub offsets_exactly : (good_offsets s ≡ true) ↔ OffsetsFit s
  unfolding good_offsets good_later_offsets
  offsets_exactly = (
    λ h.
        let a = both_true _ _ h in
        let b = both_true _ _ a.1 in
        let c = both_true _ _ b.1 in
        let d = both_true _ _ c.1 in
        let e = both_true _ _ d.1 in
        record {
          lengths_at = eqb-true _ _ a.0;
          order_at = eqb-true _ _ b.0;
          nodes_at = eqb-true _ _ c.0;
          edges_at = eqb-true _ _ d.0;
          total_is = eqb-true _ _ e.0;
          length_is = eqb-true _ _ e.1;
        },
    λ o.
        both_intro _ _ (eq-eqb _ _ o.lengths_at) (both_intro _ _ (eq-eqb _ _ o.order_at) (both_intro _ _ (eq-eqb _ _ o.nodes_at)
        (both_intro _ _ (eq-eqb _ _ o.edges_at) (both_intro _ _ (eq-eqb _ _ o.total_is) (eq-eqb _ _ o.length_is))))),
  )

  pub test_4 : (p : ℕ) → ((p ≡ 0) × (good_offsets s ≡ false)) ↔ Fault4 s p
  unfolding Fault4
  test_4 p = (
    λ h. (h.0, λ o. true_false (sym (offsets_exactly.1 o) ∙ h.1)),
    λ f. (f.0, not_true _ (λ h. f.1 (offsets_exactly.0 h))),
  )
