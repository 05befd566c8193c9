use Rattle.sms_records.specs.Inner.FormLaws.{both_readable, on_ok}
use Rattle.sms_records.specs.Inner.TraceLaws.{trace_readable}
use Rattle.sms_records.proofs.traces.TraceRecorded.write_to.Goals as goal

pub returns-clause-readable : goal.returns-clause-readable
returns-clause-readable c =
    on_ok c.write_to-2.result (λ h. trace_readable c.args.self.now
    (both_readable _ _ c.args.self.now.lines c.args.self.now.more c.in_ok-write_to.ensures.readable h)) c.write_to-2.ensures.readable
