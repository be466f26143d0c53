use Rattle.std.specs.Prelude.{ℕ, ◌≡◌, refl, Option, Some, None, Ok}
use Rattle.loops.specs.Chains.{lowest_none}
use Rattle.plan.specs.declared.Test.{Test}
use Rattle.plan.specs.Refusals.{refused_at}
use Rattle.judge.specs.Lent.{sum_most, sum_some, counters_ok}
use Rattle.judge.proofs.from_9.Goals as goal

-- where nothing is turned down no place was found
none_found : (test : Test) (found : Option ℕ) {u : Unit {0}} → Ok u ≡ refused_at test found → found ≡ None
none_found test None h = refl
none_found test (Some place) h = cc

pub from_15-requires : goal.from_15-requires
from_15-requires c =
    let pl = c.args.plan.now in
    let known = counters_ok pl c.requires in (
      c.requires.counts.edges_most,
      sum_some pl.counter pl.increment pl.nodes pl.counters known c.counter_sum-q.ensures
          (lowest_none _ _ _ c.first_bad_sum.ensures (none_found _ _ c.in_ok-refuse_lowest-4.ensures)),
      sum_most pl.counter pl.increment pl.nodes pl.counters 0 known c.requires.counts.nodes_most c.counter_sum-q.ensures,
    )
