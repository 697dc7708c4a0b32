-- The thousands, and behind them the last three digits. A number of 64 bits has at most 20 digits.
use Rattle.std.proofs.Common.{arith}
use Rattle.std.proofs.lemmas.Fmt.{length-decimal-le}
use Rattle.model_core.proofs.DigitLemmas.{decimal_three}
use Rattle.model_core.proofs.WritingLemmas.{WritesAt-next}
use Rattle.model_core.proofs.digits.Digits.write.Goals as goal

pub returns-then-number-lt1000000-clause-text : goal.returns-then-number-lt1000000-clause-text
returns-then-number-lt1000000-clause-text c =
    rw (decimal_three c.args.number (omega arith) c.ranges.number.fits) (WritesAt-next _ _ _ _ _ _ _ _ c.write_short-middle.ensures.text c.write_three.ensures)

pub returns-clause-few : goal.returns-clause-few
returns-clause-few c = omega (arith, c.write_long.ensures.ends, length-decimal-le 20 c.args.number (omega arith) (omega arith) c.ranges.number.fits)
