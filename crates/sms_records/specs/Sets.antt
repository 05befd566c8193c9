-- The record forms of data sets and their extents (docs/manual/records.md, "The record form").
use Rattle.std.specs.Prelude.{ℕ, List, Option}
use Rattle.sms_construct.specs.declared.data_set.DataSet.{DataSet}
use Rattle.sms_construct.specs.declared.eattr.Eattr.{Eattr}
use Rattle.sms_construct.specs.declared.extent.Extent.{Extent}
use Rattle.sms_construct.specs.declared.unit.Unit.{Unit as UnitOf}
use Rattle.sms_records.specs.Form.{◌&◌, Form, made, option, list, number_32_form}
use Rattle.sms_records.specs.Enums.{eattr_form, unit_form}
use Rattle.sms_records.specs.Texts.{dsn_form, name_form, volser_form, volume_count_form}

-- the fields of an extent: its volume, its first track and its length
abbrev pub extent_fields : Form (List ℕ × (ℕ × ℕ))
extent_fields = volser_form & number_32_form & number_32_form

-- an extent
abbrev pub extent_form : Form Extent
extent_form = made extent_fields
    (λ x. record { volser = x.0; start = x.1.0; length = x.1.1 })
    (λ x. (x.volser, (x.start, x.length)))

-- the data class, the storage class, the management class and the group
abbrev pub ClassFields : Type 0
ClassFields = Option (List ℕ) × (List ℕ × (Option (List ℕ) × List ℕ))

-- their form
abbrev pub class_fields : Form ClassFields
class_fields = option name_form & name_form & option name_form & name_form

-- those of a data set
abbrev pub class_fields_of : DataSet → ClassFields
class_fields_of x = (x.dataclas, (x.storclas, (x.mgmtclas, x.group)))

-- the unit, the secondary quantity and the number of volumes
abbrev pub quantity_fields : Form (UnitOf × (ℕ × ℕ))
quantity_fields = unit_form & number_32_form & volume_count_form

-- those of a data set
abbrev pub quantity_fields_of : DataSet → UnitOf × (ℕ × ℕ)
quantity_fields_of x = (x.unit, (x.secondary, x.volumes))

-- the day, the retention period and the used tracks
abbrev pub use_fields : Form (ℕ × (Option ℕ × ℕ))
use_fields = number_32_form & option number_32_form & number_32_form

-- those of a data set
abbrev pub use_fields_of : DataSet → ℕ × (Option ℕ × ℕ)
use_fields_of x = (x.day, (x.retpd, x.used))

-- the fields of a data set that have a fixed size
abbrev pub FixedFields : Type 0
FixedFields = List ℕ × (ClassFields × ((UnitOf × (ℕ × ℕ)) × (ℕ × (Option ℕ × ℕ))))

-- their form
abbrev pub fixed_fields : Form FixedFields
fixed_fields = dsn_form & class_fields & quantity_fields & use_fields

-- the fields of a data set
abbrev pub DataSetFields : Type 0
DataSetFields = FixedFields × (List Extent × Eattr)

-- their form
abbrev pub data_set_fields : Form DataSetFields
data_set_fields = fixed_fields & list extent_form & eattr_form

-- the fields of fixed size of a data set
abbrev pub fixed_fields_of : DataSet → FixedFields
fixed_fields_of x = (x.dsn, (class_fields_of x, (quantity_fields_of x, use_fields_of x)))

-- the data set of these fields
abbrev pub data_set_of : DataSetFields → DataSet
data_set_of ((its_dsn, (classes, (quantities, usage))), (its_extents, its_eattr)) = record {
  dsn = its_dsn;
  dataclas = classes.0;
  storclas = classes.1.0;
  mgmtclas = classes.1.1.0;
  group = classes.1.1.1;
  unit = quantities.0;
  secondary = quantities.1.0;
  volumes = quantities.1.1;
  day = usage.0;
  retpd = usage.1.0;
  used = usage.1.1;
  extents = its_extents;
  eattr = its_eattr;
}

-- a catalogued data set
abbrev pub data_set_form : Form DataSet
data_set_form = made data_set_fields data_set_of (λ x. (fixed_fields_of x, (x.extents, x.eattr)))
