-- The body of a page of a volume (docs/manual/smsd.md, "What pages show").
use Rattle.std.specs.Prelude.{ℕ, List, [], ◌∷◌, Option, codes}
use Rattle.serde_json.specs.Data.{Data, string, array, object, Items, no_items, item, Members, no_members, member}
use Rattle.serde_json.specs.Written.{compact_text}
use Rattle.sms_construct.specs.declared.vol_row.VolRow.{VolRow}
use Rattle.sms_script.specs.NameText.{status_text}
use Rattle.page_text.specs.declared.gap.Gap.{Gap}
use Rattle.page_text.specs.declared.set_extent.SetExtent.{SetExtent}
use Rattle.page_text.specs.PageBodies.{count, count_if}

-- an extent on one volume: its data set, its first track, and how many tracks it has
abbrev pub set_extent_value : SetExtent → Data
set_extent_value extent =
    object
    (member (codes "dsn") (string extent.dsn)
    (member (codes "start") (count extent.start)
    (member (codes "tracks") (count extent.length) no_members)))

-- such extents, in their order
abbrev pub set_extent_values : List SetExtent → Items
set_extent_values [] = no_items
set_extent_values (extent ∷ extents) = item (set_extent_value extent) (set_extent_values extents)

-- a gap: its first track, and how many tracks it has
abbrev pub gap_value : Gap → Data
gap_value gap = object (member (codes "start") (count gap.start) (member (codes "tracks") (count gap.length) no_members))

-- gaps, in their order
abbrev pub gap_values : List Gap → Items
gap_values [] = no_items
gap_values (gap ∷ gaps) = item (gap_value gap) (gap_values gaps)

-- what lies on the tracks of a volume: extents, gaps, and the track from which the next page goes on
abbrev pub track_members : List SetExtent → List Gap → Option ℕ → Members
track_members extents gaps next =
    member (codes "extents") (array (set_extent_values extents))
    (member (codes "gaps") (array (gap_values gaps))
    (member (codes "next") (count_if next) no_members))

-- a volume: its serial, its storage group, its status, its tracks, the free ones, and what lies on them
abbrev pub tracks_value : VolRow → List SetExtent → List Gap → Option ℕ → Data
tracks_value row extents gaps next =
    object
    (member (codes "volser") (string row.volser)
    (member (codes "group") (string row.group)
    (member (codes "status") (string (status_text row.status))
    (member (codes "capacity") (count row.capacity)
    (member (codes "free") (count row.free) (track_members extents gaps next))))))

-- a page of a volume with these extents and gaps, and the track from which the next page goes on, or null where none
-- follows
abbrev pub tracks_body : VolRow → List SetExtent → List Gap → Option ℕ → List ℕ
tracks_body row extents gaps next = compact_text (tracks_value row extents gaps next)

-- an extent as such pages have it
abbrev pub set_extent_body : SetExtent → List ℕ
set_extent_body extent = compact_text (set_extent_value extent)

-- a gap as such pages have it
abbrev pub gap_body : Gap → List ℕ
gap_body gap = compact_text (gap_value gap)
