use Rattle.sms_records.specs.Form.{◌&◌}
use Rattle.sms_records.specs.Inner.FormLaws.{both_readable, on_ok}
use Rattle.sms_records.specs.Inner.Givens.{counted_form, texts_form}
use Rattle.sms_records.specs.Inputs.{seen_name_form}
use Rattle.sms_records.proofs.inputs.write_parts.Goals as goal

pub returns-clause-readable : goal.returns-clause-readable
returns-clause-readable c =
    on_ok c.write_counted.result
    (λ h. both_readable seen_name_form (texts_form & counted_form) _ _ c.in_ok-write_seen_name.ensures.readable
    (both_readable texts_form counted_form _ _ c.in_ok-write_texts.ensures.readable h))
    c.write_counted.ensures.readable
