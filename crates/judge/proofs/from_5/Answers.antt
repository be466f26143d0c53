use Rattle.std.proofs.Common.{ap, sym, ◌∙◌}
use Rattle.entries.specs.Answer.{after_tables, tables_answer}
use Rattle.entries.specs.Laws.{tables_after, tables_passed, own_counters}
use Rattle.plan.specs.Refusing.{err_is}
use Rattle.judge.specs.Answer.{Refused, answered}
use Rattle.judge.specs.Tests.{from_9, from_5}
use Rattle.judge.proofs.from_5.Goals as goal

pub returns-in_err-tables : goal.returns-in_err-tables
unfolding from_5 after_tables
returns-in_err-tables c =
    let pl = c.args.plan.now in
    ap answered (err_is _ _ c.from_residual.ensures.1)
    ∙ ap (after_tables Refused (from_9 pl)) (c.in_err-tables.ensures ∙ ap tables_answer (own_counters pl _ c.from.ensures))
    ∙ tables_after Refused (from_9 pl) pl

pub from_9-requires : goal.from_9-requires
from_9-requires c =
    let pl = c.args.plan.now in
    tables_passed pl c.requires (sym (c.in_ok-tables.ensures ∙ ap tables_answer (own_counters pl _ c.from.ensures)))

pub returns : goal.returns
unfolding from_5 after_tables
returns c =
    let pl = c.args.plan.now in
    c.from_9.ensures
    ∙ ap (after_tables Refused (from_9 pl)) (c.in_ok-tables.ensures ∙ ap tables_answer (own_counters pl _ c.from.ensures))
    ∙ tables_after Refused (from_9 pl) pl
