use Rattle.sms_records.specs.Inner.FormLaws.{on_ok}
use Rattle.sms_records.specs.Inner.SetLaws.{data_set_readable}
use Rattle.sms_records.proofs.sets.DataSetRecorded.write_to.Goals as goal

pub returns-clause-readable : goal.returns-clause-readable
returns-clause-readable c =
    on_ok c.write_to-3.result
    (λ h. data_set_readable c.args.self.now c.in_ok-write_to.ensures.readable c.in_ok-write_to-2.ensures.readable h)
    c.write_to-3.ensures.readable
