use Rattle.sms_records.specs.Form.{◌&◌, number_form, number_32_form}
use Rattle.sms_records.specs.Inner.FormLaws.{both_readable, on_ok}
use Rattle.sms_records.specs.Inner.Givens.{lists_form}
use Rattle.sms_records.proofs.inputs.write_counted.Goals as goal

pub returns-clause-readable : goal.returns-clause-readable
returns-clause-readable c =
    on_ok c.write_to-2.result
    (λ h. both_readable (number_32_form & number_32_form) (lists_form & (number_form & number_form)) _ _
    c.in_ok-write_to.ensures.readable
    (both_readable lists_form (number_form & number_form) _ _ c.in_ok-write_lists.ensures.readable h))
    c.write_to-2.ensures.readable
