use Rattle.std.proofs.Common.{◌++◌, ◌∙◌, List, ℕ, ap, subst, sym}
use Rattle.sms_records.specs.Form.{IsReadable}
use Rattle.sms_records.specs.Inner.FormLaws.{on_ok}
use Rattle.sms_records.specs.Inner.GivenLaws.{readable_in_parts, written_in_parts}
use Rattle.sms_records.specs.Inputs.{input_form}
use Rattle.sms_records.proofs.inputs.GivenRecorded.write_to.Goals as goal

pub returns-clause-written : goal.returns-clause-written
returns-clause-written c =
    on_ok c.write_parts.result
    (λ h. h ∙ ap (λ (bytes : List ℕ). c.args.out.now.items ++ bytes)
    (sym (written_in_parts c.whole.result) ∙ ap input_form.write c.whole.ensures))
    c.write_parts.ensures.written

pub returns-clause-readable : goal.returns-clause-readable
returns-clause-readable c =
    on_ok c.write_parts.result
    (λ h. subst (IsReadable input_form) c.whole.ensures (readable_in_parts c.whole.result h))
    c.write_parts.ensures.readable
