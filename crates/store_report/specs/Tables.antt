-- The tables of storage groups, data sets and extents as comma-separated values (docs/manual/smsd.md, "Lists").
use Rattle.std.specs.Prelude.{ℕ, List, [], ◌∷◌, ◌++◌, Option, None, Some, codes, decimal, flat_map, length}
use Rattle.csv.specs.Writing.{default_writer, row_text}
use Rattle.page_text.specs.declared.group_row.GroupRow.{GroupRow}
use Rattle.sms_construct.specs.declared.data_set.DataSet.{DataSet}
use Rattle.store_report.specs.declared.extent_row.ExtentRow.{ExtentRow}

-- the names of the columns of the storage groups
abbrev pub groups_header : List (List ℕ)
groups_header = codes "group" ∷ codes "volumes" ∷ codes "capacity" ∷ codes "free" ∷ []

-- the record of a storage group: its name, how many volumes it has, and their tracks together, all and the free ones
abbrev pub group_fields : GroupRow → List (List ℕ)
group_fields row = row.group ∷ decimal row.volumes ∷ decimal row.capacity ∷ decimal row.free ∷ []

-- the header and a record for each storage group
abbrev pub groups_table : List GroupRow → List ℕ
groups_table rows =
    row_text default_writer groups_header ++ flat_map (λ row. row_text default_writer (group_fields row)) rows

-- the names of the columns of the data sets
abbrev pub sets_header : List (List ℕ)
sets_header =
    codes "dsn" ∷ codes "dataclas" ∷ codes "storclas" ∷ codes "mgmtclas" ∷ codes "group" ∷ codes "day"
    ∷ codes "used" ∷ codes "extents" ∷ []

-- the name of a class, and nothing where there is none
abbrev pub class_field : Option (List ℕ) → List ℕ
class_field None = []
class_field (Some name) = name

-- the record of a data set: its name, its classes and its group, its day, the tracks that it uses, and how many extents
-- it has
abbrev pub set_fields : DataSet → List (List ℕ)
set_fields set =
    set.dsn ∷ class_field set.dataclas ∷ set.storclas ∷ class_field set.mgmtclas ∷ set.group ∷ decimal set.day
    ∷ decimal set.used ∷ decimal (length set.extents) ∷ []

-- the header and a record for each data set
abbrev pub sets_table : List DataSet → List ℕ
sets_table sets =
    row_text default_writer sets_header ++ flat_map (λ set. row_text default_writer (set_fields set)) sets

-- the names of the columns of the extents
abbrev pub extents_header : List (List ℕ)
extents_header = codes "dsn" ∷ codes "volser" ∷ codes "start" ∷ codes "length" ∷ []

-- the record of an extent: its data set, its volume, its first track and its tracks
abbrev pub extent_fields : ExtentRow → List (List ℕ)
extent_fields row =
    row.dsn ∷ row.extent.volser ∷ decimal row.extent.start ∷ decimal row.extent.length ∷ []

-- the header and a record for each extent
abbrev pub extents_table : List ExtentRow → List ℕ
extents_table rows =
    row_text default_writer extents_header ++ flat_map (λ row. row_text default_writer (extent_fields row)) rows
