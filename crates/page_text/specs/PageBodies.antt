-- The bodies of pages (docs/manual/smsd.md, "What pages show").
use Rattle.std.specs.Prelude.{ℕ, List, [], ◌∷◌, Option, None, Some, codes}
use Rattle.serde_json.specs.Data.{unsigned, Data, null, number, string, array, object, Items, no_items, item}
use Rattle.serde_json.specs.Data.{Members, no_members, member}
use Rattle.serde_json.specs.Written.{compact_text}
use Rattle.sms_construct.specs.declared.data_set.DataSet.{DataSet}
use Rattle.sms_construct.specs.declared.eattr.Eattr.{Eattr}
use Rattle.sms_construct.specs.declared.eattr.Eattr.TheVariants as eattrs
use Rattle.sms_construct.specs.declared.extent.Extent.{Extent}
use Rattle.sms_construct.specs.declared.unit.Unit.{Unit as UnitOf}
use Rattle.sms_construct.specs.declared.unit.Unit.TheVariants as units
use Rattle.sms_construct.specs.declared.vol_row.VolRow.{VolRow}
use Rattle.sms_script.specs.NameText.{status_text}
use Rattle.page_text.specs.declared.group_row.GroupRow.{GroupRow}

-- a count
abbrev pub count : ℕ → Data
count n = number (unsigned n)

-- a name, or null for none
abbrev pub name_if : Option (List ℕ) → Data
name_if None = null
name_if (Some name) = string name

-- a count, or null for none
abbrev pub count_if : Option ℕ → Data
count_if None = null
count_if (Some n) = count n

-- a volume: its serial, its storage group, its status, its tracks, the free ones, and how many extents are on it
abbrev pub volume_value : VolRow → Data
volume_value row =
    object
    (member (codes "volser") (string row.volser)
    (member (codes "group") (string row.group)
    (member (codes "status") (string (status_text row.status))
    (member (codes "capacity") (count row.capacity)
    (member (codes "free") (count row.free)
    (member (codes "extents") (count row.extents) no_members))))))

-- volumes, in their order
abbrev pub volume_values : List VolRow → Items
volume_values [] = no_items
volume_values (row ∷ rows) = item (volume_value row) (volume_values rows)

-- a storage group: its name, how many volumes it has, and their tracks together, all and the free ones
abbrev pub group_value : GroupRow → Data
group_value row =
    object
    (member (codes "group") (string row.group)
    (member (codes "volumes") (count row.volumes)
    (member (codes "capacity") (count row.capacity)
    (member (codes "free") (count row.free) no_members))))

-- storage groups, in their order
abbrev pub group_values : List GroupRow → Items
group_values [] = no_items
group_values (row ∷ rows) = item (group_value row) (group_values rows)

-- an extent: its volume, its first track, and how many tracks it has
abbrev pub extent_value : Extent → Data
extent_value extent =
    object
    (member (codes "volser") (string extent.volser)
    (member (codes "start") (count extent.start)
    (member (codes "tracks") (count extent.length) no_members)))

-- extents, in their order
abbrev pub extent_values : List Extent → Items
extent_values [] = no_items
extent_values (extent ∷ extents) = item (extent_value extent) (extent_values extents)

-- the word of a unit
abbrev pub unit_text : UnitOf → List ℕ
unit_text units.Trk = codes "TRK"
unit_text units.Cyl = codes "CYL"

-- the word of an attribute
abbrev pub eattr_text : Eattr → List ℕ
eattr_text eattrs.No = codes "NO"
eattr_text eattrs.Opt = codes "OPT"

-- what of a data set is said of its space, and its extents
abbrev pub space_members : DataSet → Members
space_members set =
    member (codes "unit") (string (unit_text set.unit))
    (member (codes "secondary") (count set.secondary)
    (member (codes "volumes") (count set.volumes)
    (member (codes "eattr") (string (eattr_text set.eattr))
    (member (codes "used") (count set.used)
    (member (codes "extents") (array (extent_values set.extents)) no_members)))))

-- a data set: its name, its classes and its storage group, its day and its retention period, and its space
abbrev pub set_value : DataSet → Data
set_value set =
    object
    (member (codes "dsn") (string set.dsn)
    (member (codes "dataclas") (name_if set.dataclas)
    (member (codes "storclas") (string set.storclas)
    (member (codes "mgmtclas") (name_if set.mgmtclas)
    (member (codes "group") (string set.group)
    (member (codes "day") (count set.day)
    (member (codes "retpd") (count_if set.retpd)
    (space_members set))))))))

-- data sets, in their order
abbrev pub set_values : List DataSet → Items
set_values [] = no_items
set_values (set ∷ sets) = item (set_value set) (set_values sets)

-- a volume as the page of all has it
abbrev pub volume_body : VolRow → List ℕ
volume_body row = compact_text (volume_value row)

-- the page of all volumes
abbrev pub volumes_body : List VolRow → List ℕ
volumes_body rows = compact_text (object (member (codes "volumes") (array (volume_values rows)) no_members))

-- a storage group as its page has it
abbrev pub group_body : GroupRow → List ℕ
group_body row = compact_text (group_value row)

-- the page of all storage groups
abbrev pub groups_body : List GroupRow → List ℕ
groups_body rows = compact_text (object (member (codes "groups") (array (group_values rows)) no_members))

-- an extent as pages have it
abbrev pub extent_body : Extent → List ℕ
extent_body extent = compact_text (extent_value extent)

-- the page of a data set
abbrev pub set_body : DataSet → List ℕ
set_body set = compact_text (set_value set)

-- a page of data sets, and the name behind which the next page begins, or null where none follows
abbrev pub sets_body : List DataSet → Option (List ℕ) → List ℕ
sets_body sets after =
    compact_text
    (object (member (codes "sets") (array (set_values sets)) (member (codes "after") (name_if after) no_members)))

-- the page of the desk: how many activations there were, or null where nothing is active, how many entries its journal
-- has, and how many volumes are active
abbrev pub desk_body : Option ℕ → ℕ → ℕ → List ℕ
desk_body activations entries volumes =
    compact_text
    (object
    (member (codes "activations") (count_if activations)
    (member (codes "entries") (count entries)
    (member (codes "volumes") (count volumes) no_members))))

-- the page of the active deck, whose text this is
abbrev pub deck_body : List ℕ → List ℕ
deck_body deck = compact_text (object (member (codes "deck") (string deck) no_members))

-- the same where none is active
abbrev pub no_deck_body : List ℕ
no_deck_body = compact_text (object (member (codes "deck") null no_members))

-- the page that says that the desk is there
abbrev pub health_body : List ℕ
health_body = compact_text (object (member (codes "health") (string (codes "ok")) no_members))

-- the page that says in a sentence what is wrong
abbrev pub error_body : List ℕ → List ℕ
error_body sentence = compact_text (object (member (codes "error") (string sentence) no_members))
