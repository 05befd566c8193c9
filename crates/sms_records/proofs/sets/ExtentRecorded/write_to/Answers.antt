use Rattle.sms_records.specs.Inner.FormLaws.{on_ok}
use Rattle.sms_records.specs.Inner.SetLaws.{extent_readable}
use Rattle.sms_records.proofs.sets.ExtentRecorded.write_to.Goals as goal

pub returns-clause-readable : goal.returns-clause-readable
returns-clause-readable c =
    on_ok c.write_to.result (λ h. extent_readable c.args.self.now h) c.write_to.ensures.readable
