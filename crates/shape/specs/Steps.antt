-- The shape test of a plan value, test by test: the laws by which its code is proved. Assumes nothing.
use Rattle.std.specs.Prelude.{◌≡◌, true, false}
use Rattle.std.proofs.Math.Path.{sym}
use Rattle.std.proofs.Common.{◌∙◌}
use Rattle.loops.specs.Choice.{if_true, if_false}
use Rattle.plan.specs.declared.Plan.{Plan}
use Rattle.plan.specs.Tests.{bad_counts, q_fits, plan_fits}
use Rattle.entries.specs.Answer.{tables_answer, after_tables}
use Rattle.entries.specs.Laws.{tables_after}

module _ (pl : Plan) where
  -- test 3 refuses
  pub fails_at_3 : bad_counts pl.nodes pl.processes pl.edges pl.counters pl.modulus ≡ true → plan_fits pl ≡ false
  unfolding plan_fits
  fails_at_3 e = if_true _ _ _ e

  -- it passes, and tests 5 to 8 and Q decide
  pub goes_by_tables : bad_counts pl.nodes pl.processes pl.edges pl.counters pl.modulus ≡ false
      → plan_fits pl ≡ after_tables (λ number place. false) (q_fits pl) (tables_answer pl)
  unfolding plan_fits
  goes_by_tables e = if_false _ _ _ e ∙ sym (tables_after (λ number place. false) (q_fits pl) pl)

pub ruleset steps = (fails_at_3, goes_by_tables)
