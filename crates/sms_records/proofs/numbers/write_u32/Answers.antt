use Rattle.std.proofs.Common.{arith}
use Rattle.sms_records.specs.Inner.FormLaws.{on_ok, small_readable}
use Rattle.sms_records.proofs.numbers.write_u32.Goals as goal

pub returns-clause-readable : goal.returns-clause-readable
returns-clause-readable c = on_ok c.write_number.result
    (λ h. small_readable 4294967295 c.args.number (omega arith) (omega arith)) c.write_number.ensures.written
