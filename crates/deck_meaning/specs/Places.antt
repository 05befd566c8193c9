-- The volumes of a deck in byte order, and those that stand in two storage groups.
use Rattle.std.specs.Prelude.{ℕ, ◌+◌, List, [], ◌∷◌, Bool, Option, None, Some, codes, is_some, map, nat_lt}
use Rattle.std.specs.Prelude.{if◌then◌else◌}
use Rattle.std.specs.BTreeMap.{insert_entry, is_at}
use Rattle.std.specs.Cmp.Lexicographic.{slice_cmp}
use Rattle.std.specs.Map.{lookup}
use Rattle.std.specs.Ordering.{nat_cmp}
use Rattle.toml.specs.Data.{Data, Members, no_members, member, as_table}
use Rattle.sms_construct.specs.declared.fault.Fault.{Fault}
use Rattle.sms_construct.specs.declared.fault.Fault.TheVariants.{TooMany, TwoGroups}
use Rattle.sms_construct.specs.declared.volume.VolumeDef.{VolumeDef}
use Rattle.sms_construct.specs.Configuration.{most_volumes}
use Rattle.deck_meaning.specs.declared.place.Place.{Place}
use Rattle.deck_meaning.specs.Layout.{key_count, or_empty, table_at}
use Rattle.deck_meaning.specs.Constructs.{all_volumes}

-- volumes by their serials, in byte order; each is marked if its serial stands twice
abbrev pub Places : Type 0
Places = List (List ℕ × Place)

-- the serial has its place
abbrev pub has_place : List ℕ → Places → Bool
has_place volser places = is_some (lookup (is_at (slice_cmp nat_cmp volser)) places)

-- a volume at its place in the order
abbrev pub put_volume : Places → VolumeDef → Places
put_volume places volume =
    insert_entry (slice_cmp nat_cmp) places volume.volser
    (record { volume = volume; is_twice = has_place volume.volser places })

-- volumes at their places, one after another
abbrev pub put_volumes : Places → List VolumeDef → Places
put_volumes places [] = places
put_volumes places (volume ∷ volumes) = put_volumes (put_volume places volume) volumes

-- the storage groups of a deck
abbrev pub groups_in : Members → Members
groups_in top = table_at (codes "storgroup") top

-- the volumes of a deck
abbrev pub places_of : Members → Places
places_of top = put_volumes [] (all_volumes (groups_in top))

-- the volumes without their serials
abbrev pub volumes_in : Places → List VolumeDef
volumes_in places = map (λ place. place.1.volume) places

-- the first serial that stands twice
abbrev pub first_twice : Places → Option (List ℕ)
first_twice [] = None
first_twice (place ∷ places) = if place.1.is_twice then Some place.0 else first_twice places

-- how many volumes a storage group has
abbrev pub volume_count : Data → ℕ
volume_count value = key_count (table_at (codes "volume") (or_empty (as_table value)))

-- how many volumes storage groups have, each counted where it stands
abbrev pub volume_total : Members → ℕ
volume_total no_members = 0
volume_total (member name value others) = volume_count value + volume_total others

-- there are too many volumes in all
abbrev pub total_fault : Members → Option Fault
total_fault top = if nat_lt most_volumes (volume_total (groups_in top)) then Some (TooMany (codes "volume")) else None

-- the fault of a serial that stands twice
abbrev pub twice_fault_of : Option (List ℕ) → Option Fault
twice_fault_of None = None
twice_fault_of (Some volser) = Some (TwoGroups volser)

-- a volume stands in two storage groups
abbrev pub twice_fault : Members → Option Fault
twice_fault top = twice_fault_of (first_twice (places_of top))
