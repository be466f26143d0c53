-- What answers a `returns` of tests in order: refused here, or what comes next. Assumes nothing.
use Rattle.std.specs.Prelude.{ℕ, ◌≡◌, refl, Bool, true, false, ltb, Some, None, Result, Ok, Err}
use Rattle.std.proofs.Common.{ap, lt-ltb, le-ltb}
use Rattle.std.specs.Result.{IsErrAnd}
use Rattle.loops.specs.Choice.{if_true, if_false}
use Rattle.loops.specs.Values.{first, lowest}
use Rattle.loops.specs.Chains.{lowest_some, lowest_none, lowest_lt}
use Rattle.plan.specs.declared.Refusal.{Refusal}
use Rattle.plan.specs.Tests.{refuse_lowest, refuse_if}

-- an answer that is some refusal
pub err_is : {X : Type 0} (r : Result X Refusal) (e : Refusal) → IsErrAnd r (λ x. x ≡ e) → r ≡ Err e
err_is (Ok x) e h = absurd h
err_is (Err x) e h = ap Err h

-- a test of an order by what was found: `search` ends in `grind`, which takes these cases
module _ {A : Type 0} (refused : ℕ → ℕ → A) (number : ℕ) (next : A) where
  pub refuses_some : (f : ℕ → Bool) (n k : ℕ) → lowest f n ≡ Some k → refuse_lowest refused number f n next ≡ refused number k
  unfolding refuse_lowest
  refuses_some f n k e = let t = lowest_some f n (lowest f n) refl k e in rw (← t.1) (if_true (ltb k n) (refused number k) next (lt-ltb k n t.0))

  pub refuses_none : (f : ℕ → Bool) (n : ℕ) → lowest f n ≡ None → refuse_lowest refused number f n next ≡ next
  unfolding refuse_lowest
  refuses_none f n e = if_false (ltb (first f n) n) (refused number (first f n)) next (le-ltb (first f n) n (lowest_none f n (lowest f n) refl e))

  pub refuses_true : (t : Bool) → t ≡ true → refuse_if refused number t next ≡ refused number 0
  unfolding refuse_if
  refuses_true t e = if_true t (refused number 0) next e

  pub refuses_false : (t : Bool) → t ≡ false → refuse_if refused number t next ≡ next
  unfolding refuse_if
  refuses_false t e = if_false t (refused number 0) next e

pub ruleset refuses = (refuses_some, refuses_none, refuses_true, refuses_false, lowest_lt)
