use Rattle.std.proofs.Common.{arith, refl, ◌≡◌, ◌+◌, ◌*◌}
use Rattle.numerals.specs.Writing.{put_like}
use Rattle.transcript.specs.Running.{cut_if, running_begin, running_more, running_over}
use Rattle.lines.specs.Lines.{line}
use Rattle.numerals.specs.Texts.{puts_same}
use mathlib.Core.Path.{◌∙◌, ap}
use Rattle.transcript.proofs.put_calls.Goals as goal

pub loop-index-init : goal.loop-index-init
loop-index-init c = (rw c.fresh-state.ensures (running_begin _ c.requires.0 _ _ _), refl)

pub loop-index-preserved : goal.loop-index-preserved
loop-index-preserved c =
    let e : 4 * (c.loop-index.index + 1) ≡ 4 * c.loop-index.index + 4 = omega arith in (
      rw e
          (running_more _ c.requires.0 _ _ _ _ c.loop-index.invariant.0 (omega arith) _ _ _ c.from.ensures
          c.from-in-loop-index.ensures (c.from-in-loop-index-2.ensures ∙ c.pair_at.ensures) c.step_in_shape.ensures
          (puts_same (ap (line c.loop-index.index) c.numbered-reply.ensures) c.put_line.ensures.0).text c.put_line.ensures.1),
      c.put_line.ensures.0.same_buffer ∙ c.loop-index.invariant.1,
    )

pub returns : goal.returns
returns c = (
  record {
    text = running_over _ c.requires.0 _ _ _ c.loop-index.invariant.0 (omega arith) (put_like cut_if (omega arith) c.put_left_over.ensures.0.text);
    same_buffer = c.put_left_over.ensures.0.same_buffer ∙ c.loop-index.invariant.1;
  },
  omega arith,
)
