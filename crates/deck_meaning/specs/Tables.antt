-- The tables of a deck and their keys (docs/manual/deck.md, "Keys"): a row is a key with the values that are right
-- there.
use Rattle.std.specs.Prelude.{ℕ, List, [], ◌∷◌, true, ◌&&◌, ◌||◌, not, Option, is_some, codes, if◌then◌else◌}
use Rattle.std.specs.Option.{option_and_then, unwrap_or}
use Rattle.toml.specs.Data.{Members, get_member}
use Rattle.desk_common.specs.Limits.{most_days, most_tracks, most_volume_count}
use Rattle.dsn_mask.specs.Name.{is_name, is_volser}
use Rattle.acs_tree.specs.declared.kind.Kind.{Kind}
use Rattle.acs_tree.specs.declared.kind.Kind.TheVariants.{DataClas, StorClas, MgmtClas, StorGrp}
use Rattle.sms_construct.specs.declared.fault.Fault.{Fault}
use Rattle.sms_construct.specs.Keys.{key_of}
use Rattle.sms_construct.specs.Quantities.{most_breakpoint}
use Rattle.deck_meaning.specs.Limits.{most_classes, most_groups, most_group_volumes}
use Rattle.deck_meaning.specs.Layout.{Walk, Row, has, fixed_keys, names, plain, inner}
use Rattle.deck_meaning.specs.declared.value_form.ValueForm.TheVariants.{Integer, Text, Flag, ConstructName, SpaceText}
use Rattle.deck_meaning.specs.declared.value_form.ValueForm.TheVariants.{Pool, GroupStatus, VolumeStatus, Device, Cylinders}
use Rattle.deck_meaning.specs.declared.value_form.ValueForm.TheVariants.{YesOrNo, OptOrNo}
use Rattle.deck_meaning.specs.declared.version.Version.{Version}
use Rattle.deck_meaning.specs.declared.version.Version.TheVariants.{One, Two}
use Rattle.deck_meaning.specs.Values.{integer_in, has_form}

-- a volume: its device, its cylinders or its tracks, just one of the three, and its status

-- the device, which must stand where neither of the others does
abbrev pub device_row : Row
device_row = record (plain (codes "device") Device) {
  is_needed = λ keys. not (has (codes "cylinders") keys || has (codes "tracks") keys);
}

-- the cylinders, which are right where a volume may have so many, and only where no device stands
abbrev pub cylinders_row : Row
cylinders_row = record (plain (codes "cylinders") Cylinders) {
  is_right = λ keys value. not (has (codes "device") keys) && has_form Cylinders value;
}

-- the tracks, which are right in their range, and only where neither of the others stands
abbrev pub tracks_row : Row
tracks_row = record (plain (codes "tracks") (Integer 1 most_tracks)) {
  is_right = λ keys value.
      not (has (codes "device") keys || has (codes "cylinders") keys) && has_form (Integer 1 most_tracks) value;
}

-- the keys of a volume
abbrev pub volume_rows : List Row
volume_rows = device_row ∷ cylinders_row ∷ tracks_row ∷ plain (codes "status") VolumeStatus ∷ []

-- the table of a volume
abbrev pub volume_walk : Walk
volume_walk = fixed_keys volume_rows

-- the high threshold of a storage group
abbrev pub high_of : Members → ℕ
high_of keys = unwrap_or (option_and_then (integer_in 1 100) (get_member (codes "high") keys)) 85

-- the low threshold is at most the high one
abbrev pub low_row : Row
low_row = record (plain (codes "low") (Integer 0 100)) {
  is_right = λ keys value. has_form (Integer 0 (high_of keys)) value;
}

-- the keys of a storage group
abbrev pub group_rows : List Row
group_rows =
    plain (codes "type") Pool
    ∷ plain (codes "status") GroupStatus
    ∷ plain (codes "high") (Integer 1 100)
    ∷ low_row
    ∷ plain (codes "overflow") Flag
    ∷ plain (codes "breakpoint") (Integer 0 most_breakpoint)
    ∷ inner (codes "volume") (names most_group_volumes is_volser volume_walk)
    ∷ []

-- the keys of a data class
abbrev pub data_class_rows : List Row
data_class_rows =
    plain (codes "space") SpaceText
    ∷ plain (codes "volcount") (Integer 1 most_volume_count)
    ∷ plain (codes "eattr") OptOrNo
    ∷ []

-- the keys of a storage class, which has none in the first version
abbrev pub storage_class_rows : Version → List Row
storage_class_rows One = []
storage_class_rows Two = plain (codes "multi_tier") YesOrNo ∷ []

-- the keys of a management class
abbrev pub management_class_rows : List Row
management_class_rows = plain (codes "expire_after") (Integer 0 most_days) ∷ plain (codes "release") YesOrNo ∷ []

-- the keys of a construct
abbrev pub construct_rows : Version → Kind → List Row
construct_rows version DataClas = data_class_rows
construct_rows version StorClas = storage_class_rows version
construct_rows version MgmtClas = management_class_rows
construct_rows version StorGrp = group_rows

-- the table of a construct
abbrev pub construct_walk : Version → Kind → Walk
construct_walk version kind = fixed_keys (construct_rows version kind)

-- how many constructs of a kind there may be
abbrev pub most_constructs : Kind → ℕ
most_constructs DataClas = most_classes
most_constructs StorClas = most_classes
most_constructs MgmtClas = most_classes
most_constructs StorGrp = most_groups

-- the constructs of a kind, by their names
abbrev pub constructs_row : Version → Kind → Row
constructs_row version kind = inner (key_of kind) (names (most_constructs kind) is_name (construct_walk version kind))

-- the text of a routine
abbrev pub source_row : Kind → Row
source_row kind = plain (key_of kind) Text

-- the table of routines
abbrev pub routine_walk : Walk
routine_walk = fixed_keys (source_row DataClas ∷ source_row StorClas ∷ source_row MgmtClas ∷ source_row StorGrp ∷ [])

-- the version, which must stand and is 1 or 2
abbrev pub version_row : Row
version_row = record (plain (codes "version") (Integer 1 2)) { is_needed = λ keys. true }

-- the version by which a deck is read; the first where it names none
abbrev pub version_of : Members → Version
version_of top = if is_some (option_and_then (integer_in 2 2) (get_member (codes "version") top)) then Two else One

-- the keys of the top table
abbrev pub top_rows : Version → List Row
top_rows version =
    version_row
    ∷ plain (codes "system") ConstructName
    ∷ plain (codes "sysplex") ConstructName
    ∷ constructs_row version DataClas ∷ constructs_row version StorClas
    ∷ constructs_row version MgmtClas ∷ constructs_row version StorGrp
    ∷ inner (codes "routine") routine_walk
    ∷ []

-- the top table, which is the whole deck
abbrev pub top_walk : Version → Walk
top_walk version = fixed_keys (top_rows version)

-- the first fault of the top table and of those inside
abbrev pub tables_fault : Members → Option Fault
tables_fault top = top_walk (version_of top) [] top
