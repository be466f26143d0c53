-- A row that is relaxed until its sum no longer falls: no edge can lower it.
-- `search (rules, settlings)` answers such a loop's goals. Assumes nothing.
use Prim.Native.Nat.{ℕ, zero, suc, ◌<◌}
use Rattle.std.proofs.Math.Decide.{ℕ_discrete}
use Rattle.std.proofs.Common.{arith, sym, ◌∙◌}
use Rattle.std.specs.Prelude.{refl, List}
use Rattle.std.proofs.Math.Path.{subst}
use Rattle.loops.specs.Choice.{at}
use Rattle.loops.specs.Sum.{sum_le}
use Rattle.routes.specs.Rows.{no_route, enough_sweeps, total, start, sweep, settled, emptiest_row}
use Rattle.routes.specs.Relaxing.{EndsInRow, Stable, sweep_total_le}
use Rattle.routes.specs.Settling.{start_low, settled_last, settled_more, Settling, settling_more, settling_over}
use Rattle.routes.proofs.Relaxing.{sweep_kept}

start_total : (from : ℕ) → from < 64 → total (start from) < enough_sweeps
unfolding total
start_total from h = omega (arith, sum_le (at (start from)) no_route (start_low from h) 64)

module _ (source destination tokens : List ℕ) (edges : ℕ) where
  -- `sweep`, `settled` and `emptiest_row` with these tables
  abbrev next : List ℕ → List ℕ
  next = sweep source destination tokens edges

  abbrev settle : ℕ → List ℕ → List ℕ
  settle = settled source destination tokens edges

  abbrev answer : ℕ → List ℕ
  answer = emptiest_row source destination tokens edges

  settled_stable : EndsInRow source destination edges → (sweeps : ℕ) (row : List ℕ) → total row < sweeps
      → Stable source destination tokens edges (settle sweeps row)
  settled_stable ends zero row h = absurd (omega arith)
  settled_stable ends (suc sweeps) row h =
      elim (ℕ_discrete (total (next row)) (total row)) [
        | yes e ↦
            let k = sweep_kept source destination tokens row edges ends e in
            subst (Stable source destination tokens edges) (sym (settled_last source destination tokens edges sweeps row e ∙ k.0)) k.1
        | no f ↦
            subst (Stable source destination tokens edges) (sym (settled_more source destination tokens edges sweeps row f))
            (settled_stable ends sweeps (next row) (omega (arith, sweep_total_le source destination tokens row edges)))
      ]

  -- no edge can lower the answer
  pub row_stable : EndsInRow source destination edges → (from : ℕ) → from < 64 → Stable source destination tokens edges (answer from)
  unfolding emptiest_row
  row_stable ends from h = settled_stable ends enough_sweeps (start from) (start_total from h)

pub settling_begin : (source destination tokens : List ℕ) (edges from : ℕ) → from < 64
    → Settling source destination tokens edges (emptiest_row source destination tokens edges from) (start from)
unfolding emptiest_row
settling_begin source destination tokens edges from h =
    record { sweeps = enough_sweeps; enough = start_total from h; rest = refl; bound = start_low from h }

pub ruleset settlings = (settling_begin, settling_more, settling_over)
