use Rattle.transcript.specs.Printing.{answers_at_once, answers_short, answers_whole}
use Rattle.transcript.proofs.transcript.Goals as goal

pub returns-then-out-ge409642 : goal.returns-then-out-ge409642
returns-then-out-ge409642 c = answers_at_once _ _ _ c.put_text.ensures.0 c.put_text.ensures.1 c.if-out-ge409642.true

pub returns-then-out-needed : goal.returns-then-out-needed
returns-then-out-needed c = answers_short _ _ _ c.put_text-needed.ensures.0 c.put_text-needed.ensures.1 c.if-out-needed.true

pub returns : goal.returns
returns c = answers_whole _ _ _ c.put_text-needed.ensures.0 c.put_text-needed.ensures.1 c.if-out-needed.false c.put_text-2.ensures.0
