-- What these record forms promise: what is read is written so, and what is written is read again.
use Rattle.std.proofs.Common.{refl}
use Rattle.sms_records.specs.Form.{IsExact}
use Rattle.sms_records.specs.Inner.FormLaws.{◌&-exact◌, number_exact, number_32_exact, number_16_exact}
use Rattle.sms_records.specs.Inner.ListLaws.{list_exact}
use Rattle.sms_records.specs.Inner.VariantLaws.{◌also◌, variants_exact, variant_exact, bare_exact}
use Rattle.sms_records.specs.Inner.EnumLaws.{kind_exact, status_exact, why_no_extend_exact}
use Rattle.sms_records.specs.Inner.TextLaws.{name_exact, short_exact, volser_exact}
use Rattle.sms_records.specs.Inner.SetLaws.{data_set_exact, extent_exact}
use Rattle.sms_records.specs.Inner.TraceLaws.{trace_exact}
use Rattle.sms_records.specs.Inner.ViewLaws.{target_exact, view_exact}
use Rattle.sms_records.specs.Inner.FaultLaws.{fault_exact}
use Rattle.sms_records.specs.Replies.{reply_form, reply_readers, reply_write}

pub reply_exact : IsExact reply_form
reply_exact = variants_exact reply_write reply_readers
    (variant_exact _ 0 _ _ (data_set_exact &-exact trace_exact) (λ q. refl)
    also variant_exact _ 1 _ _ trace_exact (λ q. refl)
    also variant_exact _ 2 _ _ (list_exact _ extent_exact) (λ q. refl)
    also variant_exact _ 3 _ _ number_exact (λ q. refl)
    also variant_exact _ 4 _ _ number_exact (λ q. refl)
    also variant_exact _ 5 _ _ (target_exact &-exact status_exact) (λ q. refl)
    also variant_exact _ 6 _ _ view_exact (λ q. refl)
    also variant_exact _ 7 _ _ (name_exact &-exact number_32_exact) (λ q. refl)
    also bare_exact _ 8 _ refl
    also variant_exact _ 9 _ _ number_exact (λ q. refl)
    also variant_exact _ 10 _ _ number_exact (λ q. refl)
    also variant_exact _ 11 _ _ number_32_exact (λ q. refl)
    also bare_exact _ 12 _ refl
    also bare_exact _ 13 _ refl
    also variant_exact _ 14 _ _ ((kind_exact &-exact number_16_exact) &-exact trace_exact) (λ q. refl)
    also variant_exact _ 15 _ _ ((kind_exact &-exact short_exact) &-exact trace_exact) (λ q. refl)
    also variant_exact _ 16 _ _ trace_exact (λ q. refl)
    also variant_exact _ 17 _ _ trace_exact (λ q. refl)
    also variant_exact _ 18 _ _ trace_exact (λ q. refl)
    also bare_exact _ 19 _ refl
    also variant_exact _ 20 _ _ why_no_extend_exact (λ q. refl)
    also variant_exact _ 21 _ _ fault_exact (λ q. refl)
    also variant_exact _ 22 _ _ volser_exact (λ q. refl)
    also bare_exact _ 23 _ refl
    also bare_exact _ 24 _ refl
    also variant_exact _ 25 _ _ number_exact (λ q. refl)
    also bare_exact _ 26 _ refl
    also bare_exact _ 27 _ refl also tt)
