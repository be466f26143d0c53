-- The answer of tests 5 to 8 says what the chain of tests comes to, whatever comes next; a plan value that passes them has its tables.
-- Assumes nothing.
use Rattle.std.specs.Prelude.{ℕ, ◌≡◌, [], Bool}
use Rattle.std.proofs.Math.Path.{refl}
use Rattle.std.proofs.Math.Bool.{true, false}
use Rattle.std.proofs.Common.{arith}
use Rattle.loops.specs.Choice.{if}
use Rattle.std.proofs.Common.{ap}
use Rattle.plan.specs.declared.Plan.{Plan}
use Rattle.plan.specs.Value.{with_counters}
use Rattle.plan.specs.Faults.{CountsFit}
use Rattle.plan.specs.Tests.{refuse_lowest, order_then, tables_then}
use Rattle.plan.specs.Passed.{passes_3, counts_pass}
use Rattle.plan.specs.Tables.{Tabled}
use Rattle.plan.specs.Formed.{tabled}
use Rattle.plan.specs.Order.{NoneOf}
use Rattle.plan.specs.Chain.{decides_final}
use Rattle.plan.specs.Faults.{tables_order}
use Rattle.plan.specs.Decided.{tables_decided}
use Rattle.entries.specs.Answer.{Passed, Refused}
use Rattle.entries.specs.Answer.{tables_answer, after_tables}

-- a plan value with its own number of counters is that plan value
pub own_counters : (pl : Plan) (c : ℕ) → c ≡ pl.counters → with_counters pl c ≡ pl
own_counters pl c e = ap (with_counters pl) e

refused_one : (k p k' p' : ℕ) → Refused k p ≡ Refused k' p' → (k ≡ k') × (p ≡ p')
refused_one k p k' p' e = (cc, cc)

not_passed : (k p : ℕ) → Refused k p ≡ Passed → ⊥
not_passed k p e = let z : ◌≡◌ {A = ℕ} 0 1 = cc in omega arith

module _ {A : Type 0} (refused : ℕ → ℕ → A) (next : A) where
  -- the chain with any tests and places
  chained : (t5 fits t6 t7 t8 : Bool) (p5 q5 p6 p7 p8 : ℕ)
      → after_tables refused next (if t5 (Refused 5 p5) (if fits (if t6 (Refused 6 p6) (if t7 (Refused 7 p7) (if t8 (Refused 8 p8) Passed))) (Refused 5 q5)))
      ≡ if t5 (refused 5 p5) (if fits (if t6 (refused 6 p6) (if t7 (refused 7 p7) (if t8 (refused 8 p8) next))) (refused 5 q5))
  unfolding if after_tables
  chained true fits t6 t7 t8 p5 q5 p6 p7 p8 = refl
  chained false false t6 t7 t8 p5 q5 p6 p7 p8 = refl
  chained false true true t7 t8 p5 q5 p6 p7 p8 = refl
  chained false true false true t8 p5 q5 p6 p7 p8 = refl
  chained false true false false true p5 q5 p6 p7 p8 = refl
  chained false true false false false p5 q5 p6 p7 p8 = refl

  -- what comes of the answer is what the chain of tests comes to
  pub tables_after : (pl : Plan) → after_tables refused next (tables_answer pl) ≡ tables_then refused pl next
  unfolding tables_answer tables_then order_then refuse_lowest
  tables_after pl = chained _ _ _ _ _ _ _ _ _ _

-- where they have passed, the tables hold what a plan's tables hold
pub tables_passed : (pl : Plan) → CountsFit pl → tables_answer pl ≡ Passed → Tabled pl
unfolding tables_answer tables_order NoneOf
tables_passed pl counts e =
    let n3 = (passes_3 pl).0 (counts_pass pl counts) in
    let o = tables_decided Refused Passed refused_one not_passed pl [] Passed n3 (λ t. decides_final Refused Passed refused_one not_passed) in
    let n = o.final_clean.0 e in
    tabled pl n3 n.0 n.1.0 n.1.1.0 n.1.1.1.0
