-- The table of volumes as comma-separated values (docs/manual/smsd.md, "Lists").
use Rattle.std.specs.Prelude.{ℕ, List, [], ◌∷◌, ◌++◌, codes, decimal, flat_map}
use Rattle.csv.specs.Writing.{default_writer, row_text}
use Rattle.sms_script.specs.NameText.{status_text}
use Rattle.store_report.specs.declared.listed_volume.ListedVolume.{ListedVolume}

-- the names of the columns
abbrev pub volumes_header : List (List ℕ)
volumes_header =
    codes "volser" ∷ codes "group" ∷ codes "status" ∷ codes "capacity" ∷ codes "free" ∷ codes "extents"
    ∷ codes "high" ∷ codes "low" ∷ codes "longest_gap" ∷ []

-- the record of a volume: its serial, its storage group and its status, its tracks, the free ones and how many extents
-- it has, the thresholds of its storage group, and the tracks of its longest gap
abbrev pub volume_fields : ListedVolume → List (List ℕ)
volume_fields volume =
    volume.row.volser ∷ volume.row.group ∷ status_text volume.row.status ∷ decimal volume.row.capacity
    ∷ decimal volume.row.free ∷ decimal volume.row.extents ∷ decimal volume.high ∷ decimal volume.low
    ∷ decimal volume.longest_gap ∷ []

-- the header and a record for each volume
abbrev pub volumes_table : List ListedVolume → List ℕ
volumes_table volumes =
    row_text default_writer volumes_header
    ++ flat_map (λ volume. row_text default_writer (volume_fields volume)) volumes
