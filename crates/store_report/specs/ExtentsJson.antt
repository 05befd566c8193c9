-- Extents as JSON (docs/manual/smsd.md, "Lists").
use Rattle.std.specs.Prelude.{ℕ, List, [], ◌∷◌, codes}
use Rattle.serde_json.specs.Data.{Data, unsigned, number, string, array, object, Items, no_items, item, no_members}
use Rattle.serde_json.specs.Data.{member}
use Rattle.serde_json.specs.Written.{compact_text}
use Rattle.store_report.specs.declared.extent_row.ExtentRow.{ExtentRow}

-- an extent: its data set, its volume, its first track, and how many tracks it has
abbrev pub extent_value : ExtentRow → Data
extent_value row =
    object
    (member (codes "dsn") (string row.dsn)
    (member (codes "volser") (string row.extent.volser)
    (member (codes "start") (number (unsigned row.extent.start))
    (member (codes "tracks") (number (unsigned row.extent.length)) no_members))))

-- extents, in their order
abbrev pub extent_values : List ExtentRow → Items
extent_values [] = no_items
extent_values (row ∷ rows) = item (extent_value row) (extent_values rows)

-- an extent as the value has it
abbrev pub extent_body : ExtentRow → List ℕ
extent_body row = compact_text (extent_value row)

-- all extents
abbrev pub extents_body : List ExtentRow → List ℕ
extents_body rows = compact_text (object (member (codes "extents") (array (extent_values rows)) no_members))
