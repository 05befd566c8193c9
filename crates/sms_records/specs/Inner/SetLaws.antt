-- What the record forms of data sets and extents promise.
use Rattle.std.proofs.Common.{refl}
use Rattle.sms_construct.specs.declared.data_set.DataSet.{DataSet}
use Rattle.sms_construct.specs.declared.extent.Extent.{Extent}
use Rattle.sms_records.specs.Form.{◌&◌, IsExact, IsReadable, list}
use Rattle.sms_records.specs.Inner.FormLaws.{◌&-exact◌, number_32_exact, both_readable, made_exact, made_again}
use Rattle.sms_records.specs.Inner.ListLaws.{option_exact, list_exact}
use Rattle.sms_records.specs.Enums.{eattr_form}
use Rattle.sms_records.specs.Inner.EnumLaws.{eattr_exact, unit_exact}
use Rattle.sms_records.specs.Inner.TextLaws.{dsn_exact, name_exact, volser_exact, volume_count_exact}
use Rattle.sms_records.specs.Sets.{data_set_fields, data_set_form, data_set_of, extent_fields, extent_form}
use Rattle.sms_records.specs.Sets.{fixed_fields, fixed_fields_of}

pub extent_exact : IsExact extent_form
extent_exact = made_exact _ _ _ (volser_exact &-exact number_32_exact &-exact number_32_exact) (λ a. refl)

pub extent_readable : (x : Extent) → IsReadable extent_fields (x.volser, (x.start, x.length))
    → IsReadable extent_form x
extent_readable = made_again _ _ _ (λ x. refl)

pub data_set_exact : IsExact data_set_form
data_set_exact = made_exact _ _ _
    ((dsn_exact
    &-exact (option_exact _ name_exact &-exact name_exact &-exact option_exact _ name_exact &-exact name_exact)
    &-exact (unit_exact &-exact number_32_exact &-exact volume_count_exact)
    &-exact (number_32_exact &-exact option_exact _ number_32_exact &-exact number_32_exact))
    &-exact list_exact _ extent_exact &-exact eattr_exact)
    (λ a. refl)

pub data_set_readable : (x : DataSet) → IsReadable fixed_fields (fixed_fields_of x)
    → IsReadable (list extent_form) x.extents
    → IsReadable eattr_form x.eattr → IsReadable data_set_form x
data_set_readable x first second third =
    made_again data_set_fields data_set_of (λ y. (fixed_fields_of y, (y.extents, y.eattr))) (λ y. refl) x
    (both_readable fixed_fields (list extent_form & eattr_form) (fixed_fields_of x) (x.extents, x.eattr) first
    (both_readable (list extent_form) eattr_form x.extents x.eattr second third))
