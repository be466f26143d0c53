-- Rounding up by std's `div_ceil`, as formulas 14 and 15 round.
-- Assumes nothing.
use Rattle.std.specs.Prelude.{◌≡◌, ℕ, ◌+◌, ◌-◌, ◌*◌, ◌/◌, ◌%◌, ◌<◌, min}
use Rattle.std.proofs.Common.{arith, ap, ◌∙◌}
use Rattle.std.proofs.Math.Decide.{ℕ_discrete}
use Rattle.std.proofs.Math.Nat.{mod-lt}
use Rattle.std.proofs.lemmas.Nat.{div-add-mod', div-mul-add}

-- the quotient rounded up, and that of the number with q - 1 added
pub ceil_is : (q i : ℕ) → 0 < q → i / q + min 1 (i % q) ≡ (i + (q - 1)) / q
ceil_is q i h =
    let e : i / q * q + i % q ≡ i = div-add-mod' i q in
    let l : i % q < q = mod-lt i h in
    elim (ℕ_discrete (i % q) 0) [
      | yes p ↦
          let t : i + (q - 1) ≡ (i / q) * q + (q - 1) = omega arith in
          let d : (i + (q - 1)) / q ≡ i / q = ap (λ x. x / q) t ∙ div-mul-add (i / q) q (q - 1) (omega arith) in
          omega arith
      | no p ↦
          let t : i + (q - 1) ≡ (i / q + 1) * q + (i % q - 1) = omega arith in
          let d : (i + (q - 1)) / q ≡ i / q + 1 = ap (λ x. x / q) t ∙ div-mul-add (i / q + 1) q (i % q - 1) (omega arith) in
          omega arith
    ]
