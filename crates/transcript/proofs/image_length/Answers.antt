use Rattle.std.proofs.Common.{rules, arith}
use Rattle.transcript.specs.Text.{image_length}
use Rattle.transcript.specs.Printing.{image_beyond, image_total}
use mathlib.Core.Path.{◌∙◌}
use Rattle.loops.specs.Choice.{ifs}
use Rattle.transcript.proofs.image_length.Goals as goal

pub returns-then-input-lt36 : goal.returns-then-input-lt36
unfolding image_length
returns-then-input-lt36 c = search (rules, ifs)

pub returns-then-total-lt36 : goal.returns-then-total-lt36
unfolding image_length
returns-then-total-lt36 c = search (rules, ifs)

pub returns-then-input-total : goal.returns-then-input-total
returns-then-input-total c = (image_beyond _ (omega arith) (omega arith) (omega arith), omega arith)

pub returns : goal.returns
returns c = (c.total_field-total.ensures ∙ image_total _ (omega arith) (omega arith) (omega arith), omega arith)
