-- The number has one digit, or those before the last and then the last.
use Rattle.std.proofs.Common.{rules}
use Rattle.numerals.specs.PutDecimal.{put_digit, put_digits}
use Rattle.numerals.proofs.text.+put_decimal_at.Goals as goal

pub returns-then-n-lt10 : goal.returns-then-n-lt10
returns-then-n-lt10 t c = put_digit _ (search rules) c.digit.ensures c.put_at.ensures

pub returns : goal.returns
returns t c = put_digits _ (search rules) (search rules) c.put_decimal_at-next.ensures.0 c.digit-2.ensures c.put_at-2.ensures
