use Rattle.std.proofs.Common.{subst}
use Rattle.sms_records.specs.Allocs.{asked_form, asked_of, choices_form}
use Rattle.sms_records.specs.Inner.AllocLaws.{alloc_readable}
use Rattle.sms_records.specs.Form.{IsReadable}
use Rattle.sms_records.specs.Inner.FormLaws.{both_readable, on_ok}
use Rattle.sms_records.specs.Inputs.{input_form}
use Rattle.sms_records.specs.Texts.{dsn_form}
use Rattle.sms_records.proofs.allocs.AllocRecorded.write_to.Goals as goal

pub returns-clause-readable : goal.returns-clause-readable
returns-clause-readable c =
    on_ok c.write_to-3.result
    (λ h. alloc_readable c.args.self.now
    (both_readable dsn_form asked_form c.args.self.now.input.dsn (asked_of c.args.self.now)
    (subst (IsReadable dsn_form) c.dsn.ensures c.in_ok-write_to.ensures.readable)
    (both_readable input_form choices_form c.args.self.now.input _ c.in_ok-write_to-2.ensures.readable
    (subst (IsReadable choices_form) c.choices_of.ensures h))))
    c.write_to-3.ensures.readable
