use Rattle.std.proofs.Common.{rules, arith, refl}
use Rattle.transcript.specs.Running.{put_no_cut, put_cut}
use Rattle.transcript.proofs.put_left_over.Goals as goal

pub returns-then-left-ne0 : goal.returns-then-left-ne0
returns-then-left-ne0 c =
    (record { text = put_cut _ c.if-left-ne0.true c.put_word.ensures.text; same_buffer = c.put_word.ensures.same_buffer }, omega (arith, c.put_word.ensures.text.next_is))

pub returns-else-left-ne0 : goal.returns-else-left-ne0
returns-else-left-ne0 c = (record { text = put_no_cut _ (search rules); same_buffer = refl }, omega arith)
