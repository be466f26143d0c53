use Rattle.std.proofs.Common.{arith, sym, ◌∙◌}
use Rattle.std.proofs.lemmas.Grind.{common_steps}
use Rattle.machine.specs.InRange.{nexts_by_test}
use Rattle.machine.specs.Stepping.{fits_by_marks, bad_position, bad_flag, bad_counter}
use Rattle.machine.proofs.state_fits.Goals.{then-positions_bad-eq0, else-positions_bad-eq0, then-flags_bad-eq0, else-flags_bad-eq0}
use Rattle.machine.proofs.state_fits.Goals as goal

pub marks_fit-requires : goal.marks_fit-requires
marks_fit-requires c =
    elim c.if-flags_bad-eq0.branch [
      | then-flags_bad-eq0 w ↦ elim c.if-positions_bad-eq0.branch [
        | then-positions_bad-eq0 v ↦ nexts_by_test _ c.requires _ (sym c.positions_bad.ensures ∙ v.if-positions_bad-eq0.true)
        | else-positions_bad-eq0 v ↦ grind (arith, common_steps)
      ]
      | else-flags_bad-eq0 w ↦ grind (arith, common_steps)
    ]

pub returns-then-counters_bad-eq0 : goal.returns-then-counters_bad-eq0
returns-then-counters_bad-eq0 c =
    elim c.if-flags_bad-eq0.branch [
      | then-flags_bad-eq0 w ↦ elim c.if-positions_bad-eq0.branch [
        | then-positions_bad-eq0 v ↦ grind (arith, common_steps, fits_by_marks)
        | else-positions_bad-eq0 v ↦ grind (arith, common_steps)
      ]
      | else-flags_bad-eq0 w ↦ grind (arith, common_steps)
    ]

pub returns-else-counters_bad-eq0 : goal.returns-else-counters_bad-eq0
returns-else-counters_bad-eq0 c =
    elim c.if-flags_bad-eq0.branch [
      | then-flags_bad-eq0 w ↦ elim c.if-positions_bad-eq0.branch [
        | then-positions_bad-eq0 v ↦ grind (arith, common_steps, bad_counter)
        | else-positions_bad-eq0 v ↦ grind (arith, common_steps)
      ]
      | else-flags_bad-eq0 w ↦ elim c.if-positions_bad-eq0.branch [
        | then-positions_bad-eq0 v ↦ grind (arith, common_steps, bad_flag)
        | else-positions_bad-eq0 v ↦ grind (arith, common_steps, bad_position)
      ]
    ]
