use Rattle.std.proofs.Common.{arith}
use Rattle.sms_script.proofs.DigitLemmas.{digits_fit}
use Rattle.sms_script.proofs.pushing.write_number.Goals as goal

-- there is room for all digits
pub write_digits-requires : goal.write_digits-requires
write_digits-requires c = (omega (arith, digits_fit c.args.number c.ranges.number.fits, c.requires.0), c.requires.1)

-- a number has at most 20 digits
pub returns-clause-start : goal.returns-clause-start
returns-clause-start c =
    (omega (arith, digits_fit c.args.number c.ranges.number.fits, c.write_digits.ensures.start, c.requires.0), omega (arith, c.write_digits.ensures.start, c.requires.0))
