-- Classes as JSON (docs/manual/smsd.md, "Lists").
use Rattle.std.specs.Prelude.{ℕ, List, [], ◌∷◌, Option, None, Some, codes}
use Rattle.serde_json.specs.Data.{Data, boolean, null, string, array, object, Items, no_items, item, no_members}
use Rattle.serde_json.specs.Data.{member}
use Rattle.serde_json.specs.Written.{compact_text}
use Rattle.page_text.specs.PageBodies.{count_if, eattr_text, unit_text}
use Rattle.sms_construct.specs.Quantities.{Quantities}
use Rattle.sms_construct.specs.declared.data_class.DataClass.{DataClass}
use Rattle.sms_construct.specs.declared.management_class.MgmtClass.{MgmtClass}
use Rattle.sms_construct.specs.declared.storage_class.StorClass.{StorClass}
use Rattle.store_report.specs.ClassTable.{primary_of, secondary_of}

-- the unit of a space, or null for none
abbrev pub unit_if : Option Quantities → Data
unit_if None = null
unit_if (Some space) = string (unit_text space.unit)

-- a data class: its name, its space, its number of volumes, and whether its data sets may lie on cylinder-managed space
abbrev pub data_class_value : DataClass → Data
data_class_value class =
    object
    (member (codes "name") (string class.name)
    (member (codes "unit") (unit_if class.space)
    (member (codes "primary") (count_if (primary_of class.space))
    (member (codes "secondary") (count_if (secondary_of class.space))
    (member (codes "volcount") (count_if class.volumes)
    (member (codes "eattr") (string (eattr_text class.eattr)) no_members))))))

-- a storage class: its name, and whether it has tiers
abbrev pub storage_class_value : StorClass → Data
storage_class_value class =
    object
    (member (codes "name") (string class.name)
    (member (codes "multi_tier") (boolean class.multi_tier) no_members))

-- a management class: its name, after how many days its data sets expire, and whether unused space is released
abbrev pub management_class_value : MgmtClass → Data
management_class_value class =
    object
    (member (codes "name") (string class.name)
    (member (codes "expire_after") (count_if class.expire_after)
    (member (codes "release") (boolean class.release) no_members)))

-- classes of each kind, in their order

abbrev pub data_class_values : List DataClass → Items
data_class_values [] = no_items
data_class_values (class ∷ classes) = item (data_class_value class) (data_class_values classes)

abbrev pub storage_class_values : List StorClass → Items
storage_class_values [] = no_items
storage_class_values (class ∷ classes) = item (storage_class_value class) (storage_class_values classes)

abbrev pub management_class_values : List MgmtClass → Items
management_class_values [] = no_items
management_class_values (class ∷ classes) = item (management_class_value class) (management_class_values classes)

-- a class of each kind as the value has it

abbrev pub data_class_body : DataClass → List ℕ
data_class_body class = compact_text (data_class_value class)

abbrev pub storage_class_body : StorClass → List ℕ
storage_class_body class = compact_text (storage_class_value class)

abbrev pub management_class_body : MgmtClass → List ℕ
management_class_body class = compact_text (management_class_value class)

-- all classes
abbrev pub classes_body : List DataClass → List StorClass → List MgmtClass → List ℕ
classes_body data_classes storage_classes management_classes =
    compact_text
    (object
    (member (codes "dataclas") (array (data_class_values data_classes))
    (member (codes "storclas") (array (storage_class_values storage_classes))
    (member (codes "mgmtclas") (array (management_class_values management_classes)) no_members))))
