use Rattle.std.proofs.Common.{List, ℕ, ◌≤◌}
use Rattle.loops.specs.Choice.{at, one_if}
use Rattle.loops.specs.Sum.{Sum}
use Rattle.ranges.specs.Range.{out_of_range, Gives}
use Rattle.ranges.proofs.entries_bad.Given as goal

abbrev pub invariant-loop-k : goal.invariant-loop-k
invariant-loop-k g l =
    ((limits : ℕ → ℕ) (entries : List ℕ) → Gives (goal.L-post g l.limit) limits → Gives (goal.E-post g l.entry) (at entries) → Sum (λ k. one_if (out_of_range limits l.count entries k)) 64 l.k l.bad)
    × (l.bad ≤ l.k)
