-- The row of synchronising edges of a plan whose tests 3 and 5 to 8 pass.
-- Assumes nothing.
use Rattle.std.specs.Prelude.{◌≡◌, ℕ, ◌<◌}
use Rattle.std.proofs.Common.{ap, ◌∙◌, arith}
use Rattle.loops.specs.Choice.{at, one_if}
use Rattle.loops.specs.Table.{padded_at}
use Rattle.plan.specs.declared.Plan.{Plan}
use Rattle.plan.specs.Tests.{synchronises, home_table}
use Rattle.plan.specs.Tables.{Tabled}
use Rattle.plan.specs.Seating.{different_is}
use Rattle.seats.specs.Crossing.{crosses, crossing_table, EndsOk}

pub crossing_at : (pl : Plan) → Tabled pl → (e : ℕ) → e < pl.edges → at (crossing_table pl) e ≡ one_if (synchronises pl e)
unfolding crosses
crossing_at pl t e h = padded_at (crosses (home_table pl) pl.source pl.destination) 512 pl.edges e h ∙ ap one_if (different_is pl t e h)

-- its edges have known ends
pub ends_ok : (pl : Plan) → Tabled pl → (edges : ℕ) → edges ≡ pl.edges → EndsOk pl.source pl.destination edges
ends_ok pl t edges e =
    record {
      edges_most = omega (arith, t.counts.edges_most);
      source_lt = λ d h. omega (arith, t.source_lt d (omega arith), t.counts.nodes_most);
      destination_lt = λ d h. omega (arith, t.destination_lt d (omega arith), t.counts.nodes_most);
    }
