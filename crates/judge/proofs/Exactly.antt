-- No fault 9 to 16 exactly where the plan has its processes and C0 to C4 hold.
-- Assumes nothing.
use Rattle.std.specs.Prelude.{◌↔◌}
use Rattle.plan.specs.declared.Plan.{Plan}
use Rattle.plan.specs.Tables.{Tabled}
use Rattle.judge.specs.Conditions.{C4}
use Rattle.judge.specs.Sound.{Upheld}
use Rattle.judge.specs.ProcessFaults.{processes_pass, processes_clean}
use Rattle.judge.specs.CounterFaults.{c1_passes, c1_clean, c2_passes, c2_clean, c3_passes, c3_clean}
use Rattle.judge.specs.Exactly.{NoFault, q_some}
use Rattle.judge.proofs.RouteFaults.{c0_passes, c0_clean, c4_passes, fault_14_clean, fault_15_clean, fault_16_clean}

module _ (pl : Plan) (t : Tabled pl) where
  pub conditions_exactly : NoFault pl ↔ Upheld pl
  unfolding C4
  conditions_exactly = (
    λ f.
        record {
          processes = processes_pass pl t f.none_9;
          c0 = c0_passes pl t f.none_13;
          c1 = c1_passes pl t f.none_10;
          c2 = c2_passes pl t f.none_11;
          c3 = c3_passes pl t f.none_12;
          c4 = c4_passes pl t (q_some pl t f.none_12) f.none_14 f.none_15 f.none_16;
        },
    λ u.
        record {
          none_9 = processes_clean pl t u.processes;
          none_10 = c1_clean pl t u.c1;
          none_11 = c2_clean pl t u.c2;
          none_12 = c3_clean pl t u.c3;
          none_13 = c0_clean pl t u.c0;
          none_14 = fault_14_clean pl t u.c4.1;
          none_15 = fault_15_clean pl t u.c4.0;
          none_16 = fault_16_clean pl t u.c4.1;
        },
  )
