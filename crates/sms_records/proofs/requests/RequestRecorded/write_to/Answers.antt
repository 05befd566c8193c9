use Rattle.sms_records.specs.Inner.FormLaws.{both_readable, on_ok}
use Rattle.sms_records.specs.Inner.RequestLaws.{request_readable}
use Rattle.sms_records.proofs.requests.RequestRecorded.write_to.Goals as goal

pub returns-clause-readable : goal.returns-clause-readable
returns-clause-readable c =
    on_ok c.write_to-2.result (λ h. request_readable c.args.self.now (both_readable _ _ (
      c.args.self.now.job,
      c.args.self.now.number,
    ) c.args.self.now.op c.in_ok-write_to.ensures.readable h)) c.write_to-2.ensures.readable
