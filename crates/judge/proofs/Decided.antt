-- The tests of a plan value decide by the order of 01's numbers. Assumes nothing.
use Rattle.std.specs.Prelude.{◌≡◌, ◌↔◌, ℕ}
use Rattle.std.proofs.Common.{sym, ◌∙◌, inl, inr}
use Rattle.plan.specs.declared.Plan.{Plan}
use Rattle.plan.specs.Value.{counter_sum, edge_sum}
use Rattle.plan.specs.Faults.{Fault3, tables_order}
use Rattle.plan.specs.Formed.{tabled, none_3, none_5, none_6, none_7, none_8}
use Rattle.plan.specs.Order.{Passes}
use Rattle.plan.specs.Passed.{counts_test, test_3}
use Rattle.plan.specs.Order.{NoneOf}
use Rattle.plan.specs.Chain.{decides_lowest, decides_if, decides_final}
use Rattle.plan.specs.Faults.{tables_order}
use Rattle.plan.specs.Decided.{tables_decided}
use Rattle.plan.specs.Tables.{Tabled}
use Rattle.judge.specs.Answer.{Accepted}
use Rattle.judge.specs.Faults.{conditions_order, order_from_5, plan_order}
use Rattle.plan.specs.Tests.{refuse_if, refuse_lowest}
use Rattle.judge.specs.Tests.{bad_order_position, bad_counter, bad_increment, bad_sum, on_free_cycle, no_way_back, not_multiple, not_above_bound, least_modulus, from_15_in, from_13_in, from_11_in, from_9, from_5, judged}
use Rattle.judge.specs.ProcessFaults.{test_9}
use Rattle.judge.specs.CounterFaults.{test_10, test_11, test_12}
use Rattle.judge.proofs.RouteFaults.{test_13, test_14, test_15, test_16}
use Rattle.judge.specs.Exactly.{q_some}
use Rattle.judge.proofs.Exactly.{conditions_exactly}
use Rattle.judge.specs.Decided.{not_accepted, Decided, none_applies, none_applies_back}
use Rattle.judge.specs.Sound.{Upheld}

module _ (pl : Plan) where
  -- the tests find the first
  pub conditions_decided : Tabled pl → Decided pl (conditions_order pl) (from_9 pl)
  unfolding from_9 from_11_in from_13_in from_15_in least_modulus edge_sum refuse_lowest refuse_if conditions_order
  conditions_decided t =
      decides_lowest _ _ _ _ 9 _ _ (bad_order_position pl) pl.nodes _ (test_9 pl t) (λ n9.
      decides_lowest _ _ _ _ 10 _ _ (bad_counter pl) pl.counters _ (test_10 pl t) (λ n10.
      decides_lowest _ _ _ _ 11 _ _ (bad_increment pl) pl.nodes _ (test_11 pl t) (λ n11.
      decides_lowest _ _ _ _ 12 _ _ (bad_sum pl) pl.counters _ (test_12 pl t) (λ n12.
      decides_lowest _ _ _ _ 13 _ _ (on_free_cycle pl) pl.nodes _ (test_13 pl t) (λ n13.
      decides_lowest _ _ _ _ 14 _ _ (no_way_back pl) pl.edges _ (test_14 pl t) (λ n14.
      decides_if _ _ _ _ 15 _ _ (not_multiple pl) _ (test_15 pl t (q_some pl t n12)) (λ n15.
      decides_lowest _ _ _ _ 16 _ _ (not_above_bound pl) pl.edges _ (test_16 pl t n14) (λ n16.
      decides_final _ _ _ _))))))))

  pub decided_from_5 : Passes (Fault3 pl) → Decided pl (order_from_5 pl) (from_5 pl)
  unfolding order_from_5 from_5
  decided_from_5 n3 = tables_decided _ _ _ _ pl (conditions_order pl) (from_9 pl) n3 conditions_decided

  -- what the tests from 5 on accept is answered counter 0's sum
  pub from_5_numbers : Passes (Fault3 pl) → (q modulus least : ℕ) → from_5 pl ≡ Accepted q modulus least → q ≡ counter_sum pl 0
  from_5_numbers n3 q modulus least e =
      elim (decided_from_5 n3).one_of [
        | inl a ↦ cc
        | inr r ↦ absurd (not_accepted r.0 r.1 q modulus least (sym r.2 ∙ e))
      ]

  -- the judge's answer says which is the first, or that there is none
  pub judged_decided : Decided pl (plan_order pl) (judged pl)
  unfolding plan_order judged refuse_if
  judged_decided = decides_if _ _ _ _ 3 _ _ (counts_test pl) _ (test_3 pl) decided_from_5

  -- nor of the faults from 5 on, or of all: exactly where the tables hold what they should, the plan has its processes and C0 to C4 hold
  pub clean_exactly : NoneOf (plan_order pl) ↔ (Tabled pl × Upheld pl)
  unfolding NoneOf plan_order order_from_5 tables_order
  clean_exactly = (
    λ n.
        let t = tabled pl n.0 n.1.0 n.1.1.0 n.1.1.1.0 n.1.1.1.1.0 in
        (t, (conditions_exactly pl t).0 (none_applies pl n.1.1.1.1.1)),
    λ h.
        let t = h.0 in
        (none_3 pl t, (none_5 pl t, (none_6 pl t, (none_7 pl t, (none_8 pl t, none_applies_back pl ((conditions_exactly pl t).1 h.1)))))),
  )
