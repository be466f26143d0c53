-- A promise `r ≡ ..`, a definition of the arguments, leaves room for one answer.
-- Assumes nothing.
use Rattle.std.specs.Prelude.{◌≡◌}
use Rattle.std.proofs.Common.{sym, ◌∙◌}

-- two answers that keep such a promise are equal
pub one_answer : {A : Type 0} {promised r s : A} → r ≡ promised → s ≡ promised → r ≡ s
one_answer p q = p ∙ sym q
