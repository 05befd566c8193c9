use Rattle.sms_records.specs.Form.{◌&◌}
use Rattle.sms_records.specs.Inner.FormLaws.{both_readable, on_ok}
use Rattle.sms_records.specs.Parts.{account_form, volumes_form}
use Rattle.sms_records.proofs.given_lists.write_lists.Goals as goal

pub returns-clause-readable : goal.returns-clause-readable
returns-clause-readable c =
    on_ok c.write_to-3.result
    (λ h. both_readable volumes_form (account_form & account_form) _ _ c.in_ok-write_to.ensures.readable
    (both_readable account_form account_form _ _ c.in_ok-write_to-2.ensures.readable h))
    c.write_to-3.ensures.readable
