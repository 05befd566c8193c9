-- Which rows of a list fit what was asked for (docs/manual/smsd.md, "Lists").
use Rattle.std.specs.Prelude.{ℕ, Bool, ◌&&◌, true, false, List, bytes_eq, filter, flat_map, map, Option, None, Some}
use Rattle.std.specs.List.{list_any}
use Rattle.dsn_mask.specs.MaskTest.{mask_fits}
use Rattle.dsn_mask.specs.Name.{short_of}
use Rattle.page_text.specs.declared.group_row.GroupRow.{GroupRow}
use Rattle.sms_construct.specs.declared.data_set.DataSet.{DataSet}
use Rattle.sms_construct.specs.declared.extent.Extent.{Extent}
use Rattle.sms_construct.specs.declared.vol_row.VolRow.{VolRow}
use Rattle.store_report.specs.declared.extent_row.ExtentRow.{ExtentRow}
use Rattle.store_report.specs.declared.selection.Selection.{Selection}

-- a value, if it is one, fits the mask
abbrev pub value_fits : List ℕ → Option (List ℕ) → Bool
value_fits mask None = false
value_fits mask (Some value) = mask_fits mask value

-- a name fits the mask, where one is asked for
abbrev pub fits_mask : Option (List ℕ) → List ℕ → Bool
fits_mask None dsn = true
fits_mask (Some mask) dsn = value_fits mask (short_of dsn)

-- it is the name that is asked for, where one is
abbrev pub is_asked : Option (List ℕ) → List ℕ → Bool
is_asked None name = true
is_asked (Some asked) name = bytes_eq name asked

-- the extent lies on the volume that is asked for, where one is
abbrev pub is_on : Option (List ℕ) → Extent → Bool
is_on volume extent = is_asked volume extent.volser

-- one of these extents lies on the volume that is asked for, where one is
abbrev pub lies_on : Option (List ℕ) → List Extent → Bool
lies_on None extents = true
lies_on (Some volser) extents = list_any (λ extent. bytes_eq extent.volser volser) extents

-- the storage group is the one that is asked for
abbrev pub fits_group : Selection → GroupRow → Bool
fits_group selection row = is_asked selection.group row.group

-- the volume is in the storage group, and is the one that is asked for
abbrev pub fits_volume : Selection → VolRow → Bool
fits_volume selection row = is_asked selection.group row.group && is_asked selection.volume row.volser

-- the name of the data set fits the mask, its storage group is the one that is asked for, and it lies on the volume
abbrev pub fits_set : Selection → DataSet → Bool
fits_set selection set =
    fits_mask selection.mask set.dsn && (is_asked selection.group set.group && lies_on selection.volume set.extents)

-- an extent of the data set of this name
abbrev pub row_of : List ℕ → Extent → ExtentRow
row_of dsn extent = record { dsn = dsn; extent = extent }

-- the extents of a data set that lie on the volume that is asked for, in the order in which they were granted
abbrev pub extents_on : Option (List ℕ) → DataSet → List ExtentRow
extents_on volume set = map (row_of set.dsn) (filter (is_on volume) set.extents)
