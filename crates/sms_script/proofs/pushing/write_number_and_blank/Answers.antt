use Rattle.std.proofs.Common.{◌-◌, arith, length-set}
use Rattle.sms_script.proofs.DigitLemmas.{digits_fit}
use Rattle.sms_script.proofs.pushing.write_number_and_blank.Goals as goal

-- there is room for all digits before the blank
pub write_digits-requires : goal.write_digits-requires
write_digits-requires c =
    (omega (arith, digits_fit c.args.number c.ranges.number.fits, c.requires.0), omega (arith, c.requires.1, length-set c.args.room.now (c.args.end - 1) 32))

-- at most 20 digits stand before the blank
pub returns-clause-start : goal.returns-clause-start
returns-clause-start c =
    (omega (arith, digits_fit c.args.number c.ranges.number.fits, c.write_digits.ensures.start, c.requires.0), omega (arith, c.write_digits.ensures.start, c.requires.0))
