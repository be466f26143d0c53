-- Tests 5 to 8 of a plan value decide by their order, whatever comes after them. Assumes nothing.
use Rattle.std.specs.Prelude.{◌≡◌, List, ℕ, eqb}
use Rattle.plan.specs.declared.Plan.{Plan}
use Rattle.plan.specs.Value.{base}
use Rattle.plan.specs.Order.{Passes, Numbered}
use Rattle.plan.specs.Tables.{Tabled}
use Rattle.plan.specs.Faults.{Fault3, tables_order}
use Rattle.plan.specs.Tests.{zero_length, bad_order, bad_node, bad_edge, refuse_lowest, order_then, tables_then}
use Rattle.plan.specs.Passed.{test_5, test_6, test_7, test_8}
use Rattle.plan.specs.Formed.{tabled}
use Rattle.plan.specs.Chain.{Outcome, decides_lowest, decides_two}

module _ {A : Type 0} (refused : ℕ → ℕ → A) (final : A)
    (refused_one : (k p k' p' : ℕ) → refused k p ≡ refused k' p' → (k ≡ k') × (p ≡ p'))
    (not_final : (k p : ℕ) → refused k p ≡ final → ⊥) (pl : Plan) where
  pub tables_decided : (rest : List Numbered) (next : A) → Passes (Fault3 pl) → (Tabled pl → Outcome refused final refused_one not_final rest next)
      → Outcome refused final refused_one not_final (tables_order pl rest) (tables_then refused pl next)
  unfolding tables_order tables_then order_then refuse_lowest
  tables_decided rest next n3 go_on =
      decides_two _ _ _ _ 5 _ _ (zero_length pl.lengths) pl.processes (eqb (base pl.lengths pl.processes) pl.nodes) _ (test_5 pl) (λ n5.
      decides_lowest _ _ _ _ 6 _ _ (bad_order pl.order pl.nodes) pl.nodes _ (test_6 pl) (λ n6.
      decides_lowest _ _ _ _ 7 _ _ (bad_node pl.counter pl.increment pl.counters) pl.nodes _ (test_7 pl) (λ n7.
      decides_lowest _ _ _ _ 8 _ _ (bad_edge pl.source pl.destination pl.tokens pl.nodes) pl.edges _ (test_8 pl) (λ n8.
      go_on (tabled pl n3 n5 n6 n7 n8)))))
