-- What it is that the tests of a plan value decide by the order of 01's numbers. Assumes nothing.
use Rattle.std.specs.Prelude.{◌≡◌, List, ℕ, ◌≤◌}
use Rattle.std.proofs.Math.Path.{refl}
use Rattle.std.proofs.Common.{arith}
use Rattle.plan.specs.declared.Plan.{Plan}
use Rattle.plan.specs.Value.{counter_sum, with_q}
use Rattle.plan.specs.Faults.{tables_order}
use Rattle.plan.specs.Order.{Numbered, NoneOf}
use Rattle.plan.specs.Chain.{EachNumber, Outcome}
use Rattle.plan.specs.Faults.{tables_order}
use Rattle.judge.specs.Answer.{Answer}
use Rattle.judge.specs.Answer.{Accepted, Refused}
use Rattle.judge.specs.Faults.{conditions_order, order_from_5, plan_order}
use Rattle.plan.specs.Tests.{order_then, tables_then}
use Rattle.judge.specs.Tests.{least_modulus, from_9, from_5}
use Rattle.judge.specs.Exactly.{NoFault}

pub refused_one : (k p k' p' : ℕ) → Refused k p ≡ Refused k' p' → (k ≡ k') × (p ≡ p')
refused_one k p k' p' e = (cc, cc)

pub not_accepted : (k p q n m : ℕ) → Refused k p ≡ Accepted q n m → ⊥
not_accepted k p q n m e = let z : ◌≡◌ {A = ℕ} 0 1 = cc in omega arith

module _ (pl : Plan) where
  -- what an accepted plan is answered: Q, N and the least modulus
  abbrev pub accepted : Answer
  accepted = Accepted (counter_sum pl 0) pl.modulus (least_modulus pl)

  abbrev pub Decided : List Numbered → Answer → Type 0
  Decided = Outcome Refused accepted refused_one (λ k p. not_accepted k p (counter_sum pl 0) pl.modulus (least_modulus pl))

  -- the plan value's Q is not looked at
  pub without_q : (q q' : ℕ) → from_5 (with_q pl q) ≡ from_5 (with_q pl q')
  unfolding from_5 tables_then order_then from_9 counter_sum
  without_q q q' = refl

  -- none of them applies exactly where there is no fault
  pub none_applies : NoneOf (conditions_order pl) → NoFault pl
  unfolding NoneOf conditions_order
  none_applies n =
      record {
        none_9 = n.0;
        none_10 = n.1.0;
        none_11 = n.1.1.0;
        none_12 = n.1.1.1.0;
        none_13 = n.1.1.1.1.0;
        none_14 = n.1.1.1.1.1.0;
        none_15 = n.1.1.1.1.1.1.0;
        none_16 = n.1.1.1.1.1.1.1.0;
      }

  pub none_applies_back : NoFault pl → NoneOf (conditions_order pl)
  unfolding NoneOf conditions_order
  none_applies_back f = (f.none_9, (f.none_10, (f.none_11, (f.none_12, (f.none_13, (f.none_14, (f.none_15, (f.none_16, tt))))))))

  -- what holds of every number of the list holds of the first that applies: each is 3, or from 5 to 16
  pub each_number : EachNumber (λ k. (3 ≤ k) × (k ≤ 16)) (plan_order pl)
  unfolding EachNumber plan_order order_from_5 tables_order conditions_order
  each_number =
      let in_bounds : (k : ℕ) → 3 ≤ k → k ≤ 16 → (3 ≤ k) × (k ≤ 16) = λ k l h. (l, h) in (
        in_bounds 3 (omega arith) (omega arith),
        (in_bounds 5 (omega arith) (omega arith), (in_bounds 6 (omega arith) (omega arith), (in_bounds 7 (omega arith) (omega arith), (in_bounds 8 (omega arith) (omega arith), (in_bounds 9 (omega arith) (omega arith), (in_bounds 10 (omega arith) (omega arith), (in_bounds 11 (omega arith) (omega arith), (in_bounds 12 (omega arith) (omega arith), (in_bounds 13 (omega arith) (omega arith), (in_bounds 14 (omega arith) (omega arith), (in_bounds 15 (omega arith) (omega arith), (in_bounds 16 (omega arith) (omega arith), tt)))))))))))),
      )
