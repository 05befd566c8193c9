-- What these record forms promise: what is read is written so, and what is written is read again.
use Rattle.std.proofs.Common.{refl}
use Rattle.sms_construct.specs.declared.text_fault.TextFault.{TextFault}
use Rattle.sms_records.specs.Form.{IsExact, IsReadable}
use Rattle.sms_records.specs.Inner.FormLaws.{◌&-exact◌, number_32_exact, number_8_exact, made_exact, made_again}
use Rattle.sms_records.specs.Inner.VariantLaws.{◌also◌, variants_exact, variant_exact, bare_exact}
use Rattle.sms_records.specs.Inner.EnumLaws.{kind_exact, stage_exact}
use Rattle.sms_records.specs.Inner.TextLaws.{name_exact, volser_exact}
use Rattle.sms_records.specs.Inner.PartLaws.{path_exact}
use Rattle.sms_records.specs.Faults.{fault_form, fault_readers, fault_write, text_fault_fields, text_fault_form}

pub text_fault_exact : IsExact text_fault_form
text_fault_exact = made_exact _ _ _ (stage_exact &-exact number_8_exact &-exact number_32_exact) (λ a. refl)

pub text_fault_readable : (x : TextFault) → IsReadable text_fault_fields (x.stage, (x.number, x.at))
    → IsReadable text_fault_form x
text_fault_readable = made_again _ _ _ (λ x. refl)

pub fault_exact : IsExact fault_form
fault_exact = variants_exact fault_write fault_readers
    (variant_exact _ 0 _ _ path_exact (λ q. refl)
    also bare_exact _ 1 _ refl
    also variant_exact _ 2 _ _ path_exact (λ q. refl)
    also variant_exact _ 3 _ _ path_exact (λ q. refl)
    also variant_exact _ 4 _ _ path_exact (λ q. refl)
    also variant_exact _ 5 _ _ path_exact (λ q. refl)
    also variant_exact _ 6 _ _ volser_exact (λ q. refl)
    also variant_exact _ 7 _ _ (kind_exact &-exact text_fault_exact) (λ q. refl)
    also variant_exact _ 8 _ _ (kind_exact &-exact name_exact) (λ q. refl)
    also variant_exact _ 9 _ _ path_exact (λ q. refl) also tt)
