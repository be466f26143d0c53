-- Formula 9 of 000: the counter less what comes earlier in the round, rounded up, is Q times the firings of a node that is next or
-- raises its counter; without a bound on the counter, and modulo N.
-- Assumes nothing.
use Rattle.std.specs.Prelude.{◌≡◌, ◌⊎◌}
use Rattle.std.proofs.Common.{sym, ◌∙◌, inl, inr, mul-le-mul_right}
use Rattle.std.proofs.Math.Path.{ap}
use Prim.Native.Nat.{ℕ, suc, ◌+◌, ◌-◌, ◌*◌, ◌%◌, ◌<◌}
use native.Mathlib.Omega.{arith}
use Rattle.std.proofs.Math.Decide.{dec_lt}
use Rattle.std.proofs.Math.Nat.{mod-mod, add-mul-mod_self_left}
use Rattle.loops.specs.Sum.{sum, sum_step}
use Rattle.counting.specs.Modular.{Divides, rounded_up, less_earlier}
use Rattle.counting.specs.Process.{counter_value, earlier, Rounds_to, Counted_node, Next, Raises, b_of}
use Rattle.counting.specs.Remainders.{minus_is, rounded_is}
use Rattle.counting.proofs.Facts.{fact_3}

-- what rounds up to Q * k without a bound is congruent to it where the counter and the difference are taken modulo N
pub rounded_modulo : (q n value taken k : ℕ) → 0 < q → 0 < n → Divides q n → Rounds_to q value taken k
    → rounded_up q (less_earlier n (value % n) taken) % n ≡ q * k % n
rounded_modulo q n value taken k h z d r =
    let enough = mul-le-mul_right taken z in
    let lifted : ℕ = value + n * taken - taken in
    let whole : n * taken ≡ q * (d.0 * taken) = omega (arith, ap (◌* taken) d.1) in
    let same : value + n * taken ≡ lifted + taken = omega arith in
    let b : less_earlier n (value % n) taken ≡ lifted % n =
    (minus_is n (value % n) taken z lifted).1 (mod-mod value n ∙ sym (add-mul-mod_self_left value n taken) ∙ ap (◌% n) same) in
    ap (λ y. rounded_up q y % n) b ∙ sym (fact_3 q n h lifted d)
    ∙ ap (◌% n) (rounded_is q lifted (k + d.0 * taken) (omega (arith, r)) (omega (arith, r)))
    ∙ ap (◌% n) (let e : q * (k + d.0 * taken) ≡ q * k + n * taken = omega arith in e)
    ∙ add-mul-mod_self_left (q * k) n taken

module _ {q n : ℕ} (x : Counted_node q n) (h : 0 < q) where
  -- formula 9 without a bound: the node is next; or it raises the counter and has fired in this round; or it raises it and has not yet
  pub formula_9 : Next x ⊎ Raises x → Rounds_to q (counter_value q x.increment x.rounds x.position) (earlier x.increment x.seat) x.firings
  unfolding sum
  formula_9 (inl next) =
      let none : x.firings ≡ x.rounds = omega arith in
      omega (arith, ap (sum x.increment) next, ap (q *◌) none)
  formula_9 (inr raises) =
      elim (dec_lt x.seat x.position) [
        | yes past ↦
            let once : x.firings ≡ suc x.rounds = omega arith in
            omega (
              arith,
              ap (q *◌) once,
              sum_step x.increment (suc x.seat) x.position past,
              sum_step x.increment x.position x.length (omega arith),
            )
        | no yet ↦
            let none : x.firings ≡ x.rounds = omega arith in
            omega (
              arith,
              ap (q *◌) none,
              sum_step x.increment x.position x.seat (omega arith),
              sum_step x.increment (suc x.seat) x.length x.seat_lt,
            )
      ]

  -- formula 9 modulo N
  pub rounded_counter : 0 < n → Divides q n → Next x ⊎ Raises x → rounded_up q (b_of x) % n ≡ q * x.firings % n
  rounded_counter z d o = rw x.counted (rounded_modulo q n _ _ x.firings h z d (formula_9 o))
