-- The constructs that a deck's tables define. What a table with no fault can't hold is passed over, or read as the
-- default.
use Rattle.std.specs.Prelude.{ℕ, ◌*◌, List, [], ◌∷◌, ◌++◌, false, Option, None, Some, codes}
use Rattle.std.specs.Option.{option_and_then, unwrap_or}
use Rattle.toml.specs.Data.{Data, Members, no_members, member, get_member, as_bool, as_table}
use Rattle.desk_common.specs.Limits.{most_days, most_tracks, most_volume_count}
use Rattle.dsn_mask.specs.Name.{name_of, volser_of}
use Rattle.sms_construct.specs.declared.data_class.DataClass.{DataClass}
use Rattle.sms_construct.specs.declared.eattr.Eattr.TheVariants.{No}
use Rattle.sms_construct.specs.declared.management_class.MgmtClass.{MgmtClass}
use Rattle.sms_construct.specs.declared.status.Status.TheVariants.{Enable}
use Rattle.sms_construct.specs.declared.storage_class.StorClass.{StorClass}
use Rattle.sms_construct.specs.declared.storage_group.StorGroup.{StorGroup}
use Rattle.sms_construct.specs.declared.unit.Unit.TheVariants.{Cyl}
use Rattle.sms_construct.specs.declared.volume.VolumeDef.{VolumeDef}
use Rattle.sms_construct.specs.Eattr.{eattrs}
use Rattle.sms_construct.specs.Quantities.{tracks_in, most_breakpoint}
use Rattle.deck_meaning.specs.Layout.{table_at}
use Rattle.deck_meaning.specs.Values.{devices, group_statuses, volume_statuses, yes_or_no, word_in, integer_in}
use Rattle.deck_meaning.specs.Values.{cylinders_in, space_in}
use Rattle.deck_meaning.specs.Tables.{high_of}

-- what a key's value means, if the key is there and its value means something
abbrev pub read_at : {X : Type 0} → (Data → Option X) → List ℕ → Members → Option X
read_at reading key keys = option_and_then reading (get_member key keys)

-- one more, where there are a name and a table
abbrev pub with_named : {X : Type 0} → (List ℕ → Members → X) → Option (List ℕ) → Option Members → List X → List X
with_named build None keys items = items
with_named build (Some name) None items = items
with_named build (Some name) (Some keys) items = build name keys ∷ items

-- what the names of a table stand for, in the order of the table
abbrev pub named : {X : Type 0} → (List ℕ → Option (List ℕ)) → (List ℕ → Members → X) → Members → List X
named reading build no_members = []
named reading build (member name value others) =
    with_named build (reading name) (as_table value) (named reading build others)

-- the data class of this name, by its keys
abbrev pub data_class_of : List ℕ → Members → DataClass
data_class_of name keys = record {
  name = name;
  space = read_at space_in (codes "space") keys;
  volumes = read_at (integer_in 1 most_volume_count) (codes "volcount") keys;
  eattr = unwrap_or (read_at (word_in eattrs) (codes "eattr") keys) No;
}

-- the storage class of this name, by its keys
abbrev pub storage_class_of : List ℕ → Members → StorClass
storage_class_of name keys = record {
  name = name;
  multi_tier = unwrap_or (read_at (word_in yes_or_no) (codes "multi_tier") keys) false;
}

-- the management class of this name, by its keys
abbrev pub management_class_of : List ℕ → Members → MgmtClass
management_class_of name keys = record {
  name = name;
  expire_after = read_at (integer_in 0 most_days) (codes "expire_after") keys;
  release = unwrap_or (read_at (word_in yes_or_no) (codes "release") keys) false;
}

-- the storage group of this name, by its keys
abbrev pub group_of : List ℕ → Members → StorGroup
group_of name keys = record {
  name = name;
  status = unwrap_or (read_at (word_in group_statuses) (codes "status") keys) Enable;
  high = high_of keys;
  low = unwrap_or (read_at (integer_in 0 (high_of keys)) (codes "low") keys) 1;
  overflow = unwrap_or (read_at as_bool (codes "overflow") keys) false;
  breakpoint = unwrap_or (read_at (integer_in 0 most_breakpoint) (codes "breakpoint") keys) 10;
}

-- the tracks of the device, of the cylinders, or as many as are named
abbrev pub size_of : Option ℕ → Option ℕ → Option ℕ → ℕ
size_of (Some device) cylinders tracks = device
size_of None (Some cylinders) tracks = cylinders * tracks_in Cyl
size_of None None tracks = unwrap_or tracks 1

-- the tracks of a volume, by its keys
abbrev pub tracks_of : Members → ℕ
tracks_of keys =
    size_of (read_at (word_in devices) (codes "device") keys) (read_at cylinders_in (codes "cylinders") keys)
    (read_at (integer_in 1 most_tracks) (codes "tracks") keys)

-- the volume of this serial in this group, by its keys
abbrev pub volume_of : List ℕ → List ℕ → Members → VolumeDef
volume_of group volser keys = record {
  volser = volser;
  group = group;
  status = unwrap_or (read_at (word_in volume_statuses) (codes "status") keys) Enable;
  tracks = tracks_of keys;
}

-- the volumes of a storage group
abbrev pub group_volumes : Option (List ℕ) → Option Members → List VolumeDef
group_volumes None keys = []
group_volumes (Some group) None = []
group_volumes (Some group) (Some keys) = named volser_of (volume_of group) (table_at (codes "volume") keys)

-- the volumes of storage groups, each where it stands
abbrev pub all_volumes : Members → List VolumeDef
all_volumes no_members = []
all_volumes (member name value others) = group_volumes (name_of name) (as_table value) ++ all_volumes others
