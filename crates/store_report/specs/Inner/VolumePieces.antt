-- The parts of volumes as they are written in JSON.
use Rattle.std.specs.Prelude.{ℕ, List, ◌++◌, codes, decimal, false}
use Rattle.json.specs.Print.{quoted}
use Rattle.serde_json.specs.Written.{items_text}
use Rattle.sms_script.specs.NameText.{status_text}
use Rattle.store_report.specs.VolumesJson.{volume_values}
use Rattle.store_report.specs.declared.listed_volume.ListedVolume.{ListedVolume}

-- the names and the status of a volume
abbrev pub volume_names : ListedVolume → List ℕ
volume_names volume =
    codes "{\"volser\":" ++ (quoted volume.row.volser ++ (codes ",\"group\":" ++ (quoted volume.row.group
    ++ (codes ",\"status\":" ++ quoted (status_text volume.row.status)))))

-- its figures
abbrev pub volume_figures : ListedVolume → List ℕ
volume_figures volume =
    codes ",\"capacity\":" ++ (decimal volume.row.capacity ++ (codes ",\"free\":" ++ (decimal volume.row.free
    ++ (codes ",\"extents\":" ++ decimal volume.row.extents))))

-- its thresholds and its longest gap
abbrev pub volume_measures : ListedVolume → List ℕ
volume_measures volume =
    codes ",\"high\":" ++ (decimal volume.high ++ (codes ",\"low\":" ++ (decimal volume.low
    ++ (codes ",\"longest_gap\":" ++ (decimal volume.longest_gap ++ codes "}")))))

-- all volumes
abbrev pub volumes_piece : List ListedVolume → List ℕ
volumes_piece volumes = codes "{\"volumes\":[" ++ (items_text false (volume_values volumes) ++ codes "}")
