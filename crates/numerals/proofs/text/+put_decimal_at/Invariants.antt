use Rattle.numerals.proofs.text.+put_decimal_at.Given as goal

abbrev pub decreases-put_decimal_at : goal.decreases-put_decimal_at
decreases-put_decimal_at l = l.n
