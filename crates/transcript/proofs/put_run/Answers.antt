use Rattle.std.proofs.Common.{rules, arith, sym, ◌∙◌, Err}
use Rattle.judge.specs.Answer.{answered}
use Rattle.reader.specs.Answer.{told}
use Rattle.lines.specs.Lines.{refusal_text}
use Rattle.lines.specs.Told.{answer_of}
use Rattle.numerals.specs.Writing.{put_same}
use Rattle.transcript.specs.Printing.{behind_few, accepted_shape, run_accepted, run_refused}
use mathlib.Core.Path.{ap}
use Rattle.transcript.proofs.put_run.Goals as goal

pub put_calls-requires : goal.put_calls-requires
put_calls-requires c =
    (accepted_shape _ (told c.read-reading.result) _ _ _ c.read-reading.ensures (ap answered c.in-Ok.is), behind_few c.args.input.now c.image_length-end.result c.requires, omega arith)

pub returns : goal.returns
returns c = (
  search (
    rules,
    run_accepted _ _ (told c.read-reading.result) c.image_length-end.ensures.0 c.read-reading.ensures _ _ _ (ap answered c.in-Ok.is)
        c.put_plan_line-length.ensures.0 c.put_calls.ensures.0.text,
  ),
  c.put_calls.ensures.1,
)

pub returns-in-Err : goal.returns-in-Err
returns-in-Err c =
    let same = ap (λ n. answer_of (Err n)) c.from.ensures ∙ sym (ap answered c.in-Err.is) in (
      run_refused _ _ (told c.read-reading.result) c.image_length-end.ensures.0 c.read-reading.ensures _ _ (ap answered c.in-Err.is)
          (put_same (ap refusal_text same) c.put_refusal.ensures.0),
      omega arith,
    )
