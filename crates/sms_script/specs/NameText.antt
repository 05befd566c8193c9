-- Names, statuses and extents as text.
use Rattle.std.specs.Prelude.{ℕ, List, [], ◌∷◌, Option, None, Some, decimal, codes}
use Rattle.std.specs.List.{join_with_byte}
use Rattle.desk_common.specs.Bytes.{space_byte}
use Rattle.sms_construct.specs.declared.extent.Extent.{Extent}
use Rattle.sms_construct.specs.declared.data_set.DataSet.{DataSet}
use Rattle.sms_construct.specs.declared.status.Status.{Status}
use Rattle.sms_construct.specs.declared.status.Status.TheVariants.{Enable, NotCon, DisAll, DisNew, QuiAll, QuiNew}
use Rattle.sms_construct.specs.declared.target.Target.{Target}
use Rattle.sms_construct.specs.declared.target.Target.TheVariants.{Group, Volume, Set}

-- the words with a blank between each two
abbrev pub spaced : List (List ℕ) → List ℕ
spaced words = join_with_byte space_byte words

-- a name, or a hyphen for none
abbrev pub name_text : Option (List ℕ) → List ℕ
name_text None = codes "-"
name_text (Some name) = name

-- a value, or a hyphen for null
abbrev pub value_text : List ℕ → List ℕ
value_text [] = codes "-"
value_text (byte ∷ bytes) = byte ∷ bytes

-- a status in its word
abbrev pub status_text : Status → List ℕ
status_text Enable = codes "ENABLE"
status_text NotCon = codes "NOTCON"
status_text DisAll = codes "DISALL"
status_text DisNew = codes "DISNEW"
status_text QuiAll = codes "QUIALL"
status_text QuiNew = codes "QUINEW"

-- the name of what a status belongs to
abbrev pub target_text : Target → List ℕ
target_text (Group name) = name
target_text (Volume volser) = volser
target_text (Set dsn) = dsn

-- the classes of a data set and its storage group
abbrev pub class_text : DataSet → List ℕ
class_text set = spaced (codes "CLASS" ∷ name_text set.dataclas ∷ set.storclas ∷ name_text
    set.mgmtclas ∷ set.group ∷ [])

-- the tracks of an extent
abbrev pub extent_text : Extent → List ℕ
extent_text extent = spaced (codes "EXTENT" ∷ extent.volser ∷ decimal extent.start ∷ decimal extent.length ∷ [])
