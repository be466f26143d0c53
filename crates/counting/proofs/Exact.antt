-- Formulas 14 and 15 of 000: the test finds exactly where a token stands, and the mended reading is the tokens.
-- For an edge whose ends' rounded numbers are known modulo N. Assumes nothing.
use Rattle.std.specs.Prelude.{◌≡◌, true, false, ◌↔◌}
use Rattle.std.proofs.Math.Path.{sym, ap}
use Rattle.std.proofs.Common.{◌∙◌, mul-le-mul_left}
use Prim.Native.Nat.{ℕ, ◌+◌, ◌-◌, ◌*◌, ◌/◌, ◌%◌, ◌≤◌, ◌<◌}
use native.Mathlib.Omega.{arith}
use Rattle.std.proofs.Math.Nat.{lt_of_mul-lt-mul_left, mul-div_right, div-eq_of_eq-mul_right, mod-add-mod, add-mod_right, mod-eq_of_lt}
use Rattle.loops.specs.Choice.{not-false as true_if_not_false}
use Rattle.counting.specs.Modular.{Divides, Exceeds, rounded_up, minus_modulo, finds, reading_sum, reading_mended}
use Rattle.counting.specs.Process.{Counted_edge}
use Rattle.counting.specs.Remainders.{minus_is, plus_congruent, multiple_modulo}
use Rattle.counting.specs.Facts.{same_if_near}
use Rattle.counting.specs.Exact.{formula_10, waits_congruent, empty_waits, never_early}

module _ {q n tokens now of_end of_source b_end b_source : ℕ} (edge : Counted_edge q n tokens now of_end of_source b_end b_source)
    (h : 0 < q) (z : 0 < n) where
  -- 000, Observation 1 (b), and the bound of C4
  module _ (back : ℕ) (route_back : of_source ≤ of_end + back) (bound : Exceeds q n tokens back) where
    -- formula 14: with N above the bound the test waits exactly where no token stands
    pub test_waits : (finds q n tokens b_end b_source ≡ false) ↔ (now ≡ 0)
    test_waits =
        let a = q * of_end in
        let c = q * (tokens + of_source) in
        let not_above : a ≤ c = mul-le-mul_left q (omega (arith, edge.balance)) in
        let near : c < a + n = omega (arith, mul-le-mul_left q route_back) in (
          λ e. (formula_10 q tokens now of_end of_source h edge.balance).0 (same_if_near n a c not_above near ((waits_congruent edge h z).0 e)),
          empty_waits edge h z,
        )

    -- and finds exactly where one stands
    pub test_exact : (finds q n tokens b_end b_source ≡ true) ↔ (0 < now)
    test_exact = (never_early edge h z, λ p. true_if_not_false _ (λ e. let none = test_waits.0 e in omega arith))

    -- formula 15, its sum taken modulo N / Q, is the tokens
    pub reading_exact : Divides q n → reading_mended q n tokens b_source b_end ≡ now
    unfolding reading_mended reading_sum
    reading_exact (m, d) =
        let A = rounded_up q b_end in
        let B = rounded_up q b_source in
        let room : tokens + back < m = lt_of_mul-lt-mul_left q (omega arith) in
        let gap : ℕ = now + (m - tokens) in
        let ahead : of_source + m ≡ of_end + gap = omega arith in
        let congruent : B % n ≡ (q * gap + A) % n =
        edge.source_rounded ∙ sym (add-mod_right (q * of_source) n)
        ∙ ap (◌% n) (let e : q * of_source + n ≡ q * of_end + q * gap = omega (arith, ap (q *◌) ahead) in e)
        ∙ sym (plus_congruent n A (q * of_end) (q * gap) edge.end_rounded) ∙ ap (◌% n) (omega arith) in
        let difference : minus_modulo n B A ≡ q * (gap % m) =
        (minus_is n B A z (q * gap)).1 congruent ∙ ap (q * gap %◌) d ∙ multiple_modulo q gap m h (omega arith) in
        ap (reading_sum q n tokens b_source b_end %◌) (div-eq_of_eq-mul_right h d) ∙ ap (λ x. (x / q + tokens) % m) difference
        ∙ ap (λ x. (x + tokens) % m) (mul-div_right (gap % m) h) ∙ mod-add-mod gap m tokens
        ∙ ap (◌% m) (let e : gap + tokens ≡ now + m = omega arith in e) ∙ add-mod_right now m ∙ mod-eq_of_lt (omega arith)
