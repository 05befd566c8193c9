-- Volumes as JSON (docs/manual/smsd.md, "Lists").
use Rattle.std.specs.Prelude.{ℕ, List, [], ◌∷◌, codes}
use Rattle.serde_json.specs.Data.{Data, string, array, object, Items, no_items, item, no_members}
use Rattle.serde_json.specs.Data.{member, Members}
use Rattle.serde_json.specs.Written.{compact_text}
use Rattle.sms_script.specs.NameText.{status_text}
use Rattle.page_text.specs.PageBodies.{count}
use Rattle.store_report.specs.declared.listed_volume.ListedVolume.{ListedVolume}

-- the thresholds of its storage group, and the tracks of its longest gap
abbrev pub measure_members : ListedVolume → Members
measure_members volume =
    member (codes "high") (count volume.high)
    (member (codes "low") (count volume.low)
    (member (codes "longest_gap") (count volume.longest_gap) no_members))

-- a volume: what the page of all volumes has of it, and the others behind
abbrev pub volume_value : ListedVolume → Data
volume_value volume =
    object
    (member (codes "volser") (string volume.row.volser)
    (member (codes "group") (string volume.row.group)
    (member (codes "status") (string (status_text volume.row.status))
    (member (codes "capacity") (count volume.row.capacity)
    (member (codes "free") (count volume.row.free)
    (member (codes "extents") (count volume.row.extents) (measure_members volume)))))))

-- volumes, in their order
abbrev pub volume_values : List ListedVolume → Items
volume_values [] = no_items
volume_values (volume ∷ volumes) = item (volume_value volume) (volume_values volumes)

-- a volume as the value has it
abbrev pub volume_body : ListedVolume → List ℕ
volume_body volume = compact_text (volume_value volume)

-- all volumes
abbrev pub volumes_body : List ListedVolume → List ℕ
volumes_body volumes = compact_text (object (member (codes "volumes") (array (volume_values volumes)) no_members))
