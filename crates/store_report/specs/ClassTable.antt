-- The table of classes as comma-separated values (docs/manual/smsd.md, "Lists").
use Rattle.std.specs.Prelude.{ℕ, Bool, true, false, List, [], ◌∷◌, ◌++◌, Option, None, Some, codes, decimal, flat_map}
use Rattle.std.specs.Prelude.{option_map}
use Rattle.csv.specs.Writing.{default_writer, row_text}
use Rattle.page_text.specs.PageBodies.{eattr_text, unit_text}
use Rattle.sms_construct.specs.Quantities.{Quantities}
use Rattle.sms_construct.specs.declared.data_class.DataClass.{DataClass}
use Rattle.sms_construct.specs.declared.management_class.MgmtClass.{MgmtClass}
use Rattle.sms_construct.specs.declared.storage_class.StorClass.{StorClass}

-- the names of the columns
abbrev pub classes_header : List (List ℕ)
classes_header =
    codes "kind" ∷ codes "name" ∷ codes "unit" ∷ codes "primary" ∷ codes "secondary" ∷ codes "volcount"
    ∷ codes "eattr" ∷ codes "multi_tier" ∷ codes "expire_after" ∷ codes "release" ∷ []

-- the primary and the secondary quantity of a space, if there is one

abbrev pub primary_of : Option Quantities → Option ℕ
primary_of space = option_map (λ quantities. quantities.primary) space

abbrev pub secondary_of : Option Quantities → Option ℕ
secondary_of space = option_map (λ quantities. quantities.secondary) space

-- a field of a kind that has no such value
abbrev pub empty : List ℕ
empty = []

-- a number, and nothing where there is none
abbrev pub number_field : Option ℕ → List ℕ
number_field None = empty
number_field (Some number) = decimal number

-- the unit of a space, and nothing where there is none
abbrev pub unit_field : Option Quantities → List ℕ
unit_field None = empty
unit_field (Some space) = unit_text space.unit

-- the word of a switch
abbrev pub switch_field : Bool → List ℕ
switch_field true = codes "YES"
switch_field false = codes "NO"

-- the record of a data class: its space and number of volumes, and whether its data sets may lie on cylinder-managed
-- space
abbrev pub data_class_fields : DataClass → List (List ℕ)
data_class_fields class =
    codes "DATACLAS" ∷ class.name ∷ unit_field class.space ∷ number_field (primary_of class.space)
    ∷ number_field (secondary_of class.space) ∷ number_field class.volumes ∷ eattr_text class.eattr
    ∷ empty ∷ empty ∷ empty ∷ []

-- the record of a storage class: whether it has tiers
abbrev pub storage_class_fields : StorClass → List (List ℕ)
storage_class_fields class =
    codes "STORCLAS" ∷ class.name ∷ empty ∷ empty ∷ empty ∷ empty ∷ empty
    ∷ switch_field class.multi_tier ∷ empty ∷ empty ∷ []

-- the record of a management class: after how many days its data sets expire, and whether unused space is released
abbrev pub management_class_fields : MgmtClass → List (List ℕ)
management_class_fields class =
    codes "MGMTCLAS" ∷ class.name ∷ empty ∷ empty ∷ empty ∷ empty ∷ empty ∷ empty
    ∷ number_field class.expire_after ∷ switch_field class.release ∷ []

-- a record for each class, kind by kind
abbrev pub classes_records : List DataClass → List StorClass → List MgmtClass → List ℕ
classes_records data_classes storage_classes management_classes =
    flat_map (λ class. row_text default_writer (data_class_fields class)) data_classes
    ++ (flat_map (λ class. row_text default_writer (storage_class_fields class)) storage_classes
    ++ flat_map (λ class. row_text default_writer (management_class_fields class)) management_classes)

-- the header, and these
abbrev pub classes_table : List DataClass → List StorClass → List MgmtClass → List ℕ
classes_table data_classes storage_classes management_classes =
    row_text default_writer classes_header ++ classes_records data_classes storage_classes management_classes
