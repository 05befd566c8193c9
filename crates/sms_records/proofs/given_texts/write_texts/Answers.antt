use Rattle.std.proofs.Common.{◌≡◌, ◌++◌, subst}
use Rattle.sms_records.specs.Form.{◌&◌, IsReadable}
use Rattle.sms_records.specs.Inner.FormLaws.{both_readable, both_written, on_ok}
use Rattle.sms_records.specs.Inner.Givens.{fields_of_texts, texts_in}
use Rattle.sms_records.specs.Inputs.{AskingFields, SettingFields, WantedFields, asking_form, default_form, setting_form}
use Rattle.sms_records.specs.Inputs.{wanted_form}
use Rattle.sms_records.specs.Texts.{short_form}
use Rattle.sms_records.proofs.given_texts.write_texts.Goals as goal

pub returns-clause-written : goal.returns-clause-written
returns-clause-written c =
    let fields = fields_of_texts (texts_in c.args.input.now) in
    let old = c.args.out.now.items in
    let one = c.write_to.new.out.items in
    let two = c.write_to-2.new.out.items in
    let three = c.write_to-3.new.out.items in
    let four = c.write_to-4.new.out.items in
    let all = c.write_to-5.new.out.items in
    on_ok c.write_to-5.result
    (λ h. both_written asking_form (wanted_form & setting_form & default_form & (short_form & short_form))
    fields.0 fields.1 old one all
    (subst (λ (x : AskingFields). one ≡ old ++ asking_form.write x) c.asking_of.ensures c.in_ok-write_to.ensures.written)
    (both_written wanted_form (setting_form & default_form & (short_form & short_form))
    fields.1.0 fields.1.1 one two all
    (subst (λ (x : WantedFields). two ≡ one ++ wanted_form.write x) c.wanted_of.ensures c.in_ok-write_to-2.ensures.written)
    (both_written setting_form (default_form & (short_form & short_form)) fields.1.1.0 fields.1.1.1 two three all
    (subst (λ (x : SettingFields). three ≡ two ++ setting_form.write x) c.setting_of.ensures c.in_ok-write_to-3.ensures.written)
    (both_written default_form (short_form & short_form) fields.1.1.1.0 fields.1.1.1.1 three four all
    c.in_ok-write_to-4.ensures.written h))))
    c.write_to-5.ensures.written

pub returns-clause-readable : goal.returns-clause-readable
returns-clause-readable c =
    on_ok c.write_to-5.result
    (λ h. both_readable asking_form (wanted_form & setting_form & default_form & (short_form & short_form)) _ _
    (subst (IsReadable asking_form) c.asking_of.ensures c.in_ok-write_to.ensures.readable)
    (both_readable wanted_form (setting_form & default_form & (short_form & short_form)) _ _
    (subst (IsReadable wanted_form) c.wanted_of.ensures c.in_ok-write_to-2.ensures.readable)
    (both_readable setting_form (default_form & (short_form & short_form)) _ _
    (subst (IsReadable setting_form) c.setting_of.ensures c.in_ok-write_to-3.ensures.readable)
    (both_readable default_form (short_form & short_form) _ _ c.in_ok-write_to-4.ensures.readable h))))
    c.write_to-5.ensures.readable
