use Rattle.sms_records.specs.Inner.FormLaws.{on_ok, seen_as}
use Rattle.sms_records.specs.Inner.ListLaws.{none_readable, some_readable}
use Rattle.sms_records.specs.Form.{option}
use Rattle.std.proofs.Common.{Some, None}
use Rattle.sms_records.proofs.lists.OptionRecorded.write_to.Goals as goal

pub returns-in_ok-push-in-None-clause-readable : goal.returns-in_ok-push-in-None-clause-readable
returns-in_ok-push-in-None-clause-readable g c =
    seen_as (option g.T.Recorded.form) c.args.self.now None c.in-None.is (none_readable g.T.Recorded.form)

pub returns-in_ok-push-in-Some-clause-readable : goal.returns-in_ok-push-in-Some-clause-readable
returns-in_ok-push-in-Some-clause-readable g c =
    on_ok c.write_to.result (λ h. seen_as (option g.T.Recorded.form) c.args.self.now
    (Some c.in-Some.value) c.in-Some.is
    (some_readable g.T.Recorded.form c.in-Some.value h)) c.write_to.ensures.readable
