-- The parts of a page of a volume as they are written.
use Rattle.std.specs.Prelude.{ℕ, List, ◌++◌, Option, codes, decimal, false}
use Rattle.json.specs.Print.{quoted}
use Rattle.serde_json.specs.Written.{compact_text, items_text}
use Rattle.sms_construct.specs.declared.vol_row.VolRow.{VolRow}
use Rattle.page_text.specs.declared.gap.Gap.{Gap}
use Rattle.page_text.specs.declared.set_extent.SetExtent.{SetExtent}
use Rattle.page_text.specs.PageBodies.{count_if}
use Rattle.page_text.specs.TrackBodies.{set_extent_values, gap_values}
use Rattle.page_text.specs.Inner.Pieces.{volume_front}

-- an extent
abbrev pub set_extent_piece : SetExtent → List ℕ
set_extent_piece extent =
    codes "{\"dsn\":" ++ (quoted extent.dsn ++ (codes ",\"start\":" ++ (decimal extent.start
    ++ (codes ",\"tracks\":" ++ (decimal extent.length ++ codes "}")))))

-- a gap
abbrev pub gap_piece : Gap → List ℕ
gap_piece gap =
    codes "{\"start\":" ++ (decimal gap.start ++ (codes ",\"tracks\":" ++ (decimal gap.length ++ codes "}")))

-- the tracks of a volume, and the free ones
abbrev pub tracks_figures : VolRow → List ℕ
tracks_figures row = codes ",\"capacity\":" ++ (decimal row.capacity ++ (codes ",\"free\":" ++ decimal row.free))

-- what lies on them
abbrev pub tracks_rest : List SetExtent → List Gap → Option ℕ → List ℕ
tracks_rest extents gaps next =
    codes ",\"extents\":[" ++ (items_text false (set_extent_values extents)
    ++ (codes ",\"gaps\":[" ++ (items_text false (gap_values gaps)
    ++ (codes ",\"next\":" ++ (compact_text (count_if next) ++ codes "}")))))

-- a page of a volume
abbrev pub tracks_text : VolRow → List SetExtent → List Gap → Option ℕ → List ℕ
tracks_text row extents gaps next = volume_front row ++ (tracks_figures row ++ tracks_rest extents gaps next)
