-- The table of volumes as comma-separated values (docs/manual/script.md, "The table of volumes").
use Rattle.std.specs.Prelude.{ℕ, List, [], ◌∷◌, ◌++◌, codes, decimal, flat_map}
use Rattle.csv.specs.Writing.{default_writer, row_text}
use Rattle.sms_construct.specs.declared.vol_row.VolRow.{VolRow}
use Rattle.sms_script.specs.NameText.{status_text}

-- the names of the columns
abbrev pub header : List (List ℕ)
header = codes "volser" ∷ codes "group" ∷ codes "status" ∷ codes "capacity" ∷ codes "free" ∷ codes "extents" ∷ []

-- the record of a volume
abbrev pub volume_fields : VolRow → List (List ℕ)
volume_fields row =
    row.volser ∷ row.group ∷ status_text row.status ∷ decimal row.capacity ∷ decimal row.free ∷ decimal row.extents ∷ []

-- the header and a record for each volume, each ended by LF; a field would stand in quotes if it had a comma, a quote
-- or a line end, which names, words and numbers have not
abbrev pub table_text : List VolRow → List ℕ
table_text rows = row_text default_writer header ++ flat_map (λ row. row_text default_writer (volume_fields row)) rows
