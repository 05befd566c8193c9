-- The parts of pages as they are written.
use Rattle.std.specs.Prelude.{ℕ, List, [], ◌∷◌, ◌++◌, Option, None, Some, codes, decimal, false, length, unwrap_or}
use Rattle.http.specs.StatusCode.{reason_phrase}
use Rattle.json.specs.Print.{quoted}
use Rattle.serde_json.specs.Written.{compact_text, items_text}
use Rattle.sms_construct.specs.declared.data_set.DataSet.{DataSet}
use Rattle.sms_construct.specs.declared.extent.Extent.{Extent}
use Rattle.sms_construct.specs.declared.vol_row.VolRow.{VolRow}
use Rattle.sms_script.specs.NameText.{status_text}
use Rattle.page_text.specs.declared.group_row.GroupRow.{GroupRow}
use Rattle.page_text.specs.PageBodies.{name_if, count_if, extent_values, group_values, set_values, volume_values}
use Rattle.page_text.specs.PageBodies.{unit_text, eattr_text}

-- the names and the status of a volume
abbrev pub volume_front : VolRow → List ℕ
volume_front row =
    codes "{\"volser\":" ++ (quoted row.volser ++ (codes ",\"group\":" ++ (quoted row.group
    ++ (codes ",\"status\":" ++ quoted (status_text row.status)))))

-- its figures
abbrev pub volume_rest : VolRow → List ℕ
volume_rest row =
    codes ",\"capacity\":" ++ (decimal row.capacity ++ (codes ",\"free\":" ++ (decimal row.free
    ++ (codes ",\"extents\":" ++ (decimal row.extents ++ codes "}")))))

-- an extent
abbrev pub extent_piece : Extent → List ℕ
extent_piece extent =
    codes "{\"volser\":" ++ (quoted extent.volser ++ (codes ",\"start\":" ++ (decimal extent.start
    ++ (codes ",\"tracks\":" ++ (decimal extent.length ++ codes "}")))))

-- the name of a data set and two of its classes
abbrev pub set_names : DataSet → List ℕ
set_names set =
    codes "{\"dsn\":" ++ (quoted set.dsn ++ (codes ",\"dataclas\":" ++ (compact_text (name_if set.dataclas)
    ++ (codes ",\"storclas\":" ++ quoted set.storclas))))

-- its other class and its storage group
abbrev pub set_group : DataSet → List ℕ
set_group set =
    codes ",\"mgmtclas\":" ++ (compact_text (name_if set.mgmtclas) ++ (codes ",\"group\":" ++ quoted set.group))

-- its days
abbrev pub set_days : DataSet → List ℕ
set_days set =
    codes ",\"day\":" ++ (decimal set.day ++ (codes ",\"retpd\":" ++ compact_text (count_if set.retpd)))

-- its quantities
abbrev pub set_space : DataSet → List ℕ
set_space set =
    codes ",\"unit\":" ++ (quoted (unit_text set.unit) ++ (codes ",\"secondary\":" ++ (decimal set.secondary
    ++ (codes ",\"volumes\":" ++ decimal set.volumes))))

-- its attribute and what it uses
abbrev pub set_use : DataSet → List ℕ
set_use set =
    codes ",\"eattr\":" ++ (quoted (eattr_text set.eattr) ++ (codes ",\"used\":" ++ decimal set.used))

-- its extents
abbrev pub set_extents : DataSet → List ℕ
set_extents set = codes ",\"extents\":[" ++ (items_text false (extent_values set.extents) ++ codes "}")

-- what stands before its space
abbrev pub set_front : DataSet → List ℕ
set_front set = set_names set ++ (set_group set ++ set_days set)

-- its space
abbrev pub set_rest : DataSet → List ℕ
set_rest set = set_space set ++ (set_use set ++ set_extents set)

-- the desk
abbrev pub desk_text : Option ℕ → ℕ → ℕ → List ℕ
desk_text activations entries volumes =
    codes "{\"activations\":" ++ (compact_text (count_if activations) ++ (codes ",\"entries\":" ++ (decimal entries
    ++ (codes ",\"volumes\":" ++ (decimal volumes ++ codes "}")))))

-- a deck
abbrev pub deck_text : List ℕ → List ℕ
deck_text deck = codes "{\"deck\":" ++ (quoted deck ++ codes "}")

-- what is wrong
abbrev pub error_text : List ℕ → List ℕ
error_text sentence = codes "{\"error\":" ++ (quoted sentence ++ codes "}")

-- all volumes
abbrev pub volumes_text : List VolRow → List ℕ
volumes_text rows = codes "{\"volumes\":[" ++ (items_text false (volume_values rows) ++ codes "}")

-- data sets, and the name behind which more may follow
abbrev pub sets_text : List DataSet → Option (List ℕ) → List ℕ
sets_text sets after =
    codes "{\"sets\":[" ++ (items_text false (set_values sets) ++ (codes ",\"after\":"
    ++ (compact_text (name_if after) ++ codes "}")))

-- the first line of a refusal, without its end
abbrev pub refusal_line : ℕ → List ℕ
refusal_line status = codes "HTTP/1.1 " ++ (decimal status ++ (codes " " ++ unwrap_or (reason_phrase status) []))

-- what stands behind that
abbrev pub refusal_rest : List ℕ → List ℕ
refusal_rest body =
    codes "\r\nContent-Type: application/json\r\nContent-Length: " ++ (decimal (length body)
    ++ (codes "\r\nConnection: close\r\n\r\n" ++ body))

-- a storage group
abbrev pub group_piece : GroupRow → List ℕ
group_piece row =
    codes "{\"group\":" ++ (quoted row.group ++ (codes ",\"volumes\":" ++ (decimal row.volumes
    ++ (codes ",\"capacity\":" ++ (decimal row.capacity ++ (codes ",\"free\":" ++ (decimal row.free ++ codes "}")))))))

-- all storage groups
abbrev pub groups_text : List GroupRow → List ℕ
groups_text rows = codes "{\"groups\":[" ++ (items_text false (group_values rows) ++ codes "}")
