use Rattle.std.proofs.Common.{◌≡◌, ◌+◌}
use Rattle.numerals.specs.Writing.{Put}
use lib.ListN.{take}
use Rattle.numerals.proofs.text.put_word_at.Given as goal

abbrev pub invariant-loop-byte : goal.invariant-loop-byte
invariant-loop-byte l = (l.next ≡ l.place + l.byte-index) × Put l.fn.buffer l.place (take l.byte-index l.word) l.buffer l.next
