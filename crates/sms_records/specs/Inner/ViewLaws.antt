-- What these record forms promise: what is read is written so, and what is written is read again.
use Rattle.std.proofs.Common.{refl}
use Rattle.sms_construct.specs.declared.vol_row.VolRow.{VolRow}
use Rattle.sms_records.specs.Form.{IsExact, IsReadable}
use Rattle.sms_records.specs.Inner.FormLaws.{◌&-exact◌, number_exact, number_32_exact, made_exact, made_again}
use Rattle.sms_records.specs.Inner.VariantLaws.{◌also◌, variants_exact, variant_exact}
use Rattle.sms_records.specs.Inner.EnumLaws.{status_exact}
use Rattle.sms_records.specs.Inner.TextLaws.{dsn_exact, name_exact, volser_exact}
use Rattle.sms_records.specs.Inner.SetLaws.{data_set_exact}
use Rattle.sms_records.specs.Views.{target_form, target_readers, target_write, view_form, view_readers, view_write}
use Rattle.sms_records.specs.Views.{vol_row_fields, vol_row_form}

pub target_exact : IsExact target_form
target_exact = variants_exact target_write target_readers
    (variant_exact _ 0 _ _ name_exact (λ q. refl)
    also variant_exact _ 1 _ _ volser_exact (λ q. refl)
    also variant_exact _ 2 _ _ dsn_exact (λ q. refl) also tt)

pub vol_row_exact : IsExact vol_row_form
vol_row_exact =
    made_exact _ _ _ (volser_exact &-exact name_exact &-exact status_exact &-exact number_32_exact
    &-exact number_32_exact &-exact number_32_exact) (λ a. refl)

pub vol_row_readable : (x : VolRow)
    → IsReadable vol_row_fields (x.volser, (x.group, (x.status, (x.capacity, (x.free, x.extents)))))
    → IsReadable vol_row_form x
vol_row_readable = made_again _ _ _ (λ x. refl)

pub view_exact : IsExact view_form
view_exact = variants_exact view_write view_readers
    (variant_exact _ 0 _ _ (name_exact &-exact status_exact &-exact number_32_exact &-exact number_exact
    &-exact number_exact) (λ q. refl)
    also variant_exact _ 1 _ _ vol_row_exact (λ q. refl)
    also variant_exact _ 2 _ _ data_set_exact (λ q. refl) also tt)
