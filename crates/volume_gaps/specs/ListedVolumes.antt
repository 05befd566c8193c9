-- Volumes with the thresholds of their storage groups and their longest gaps (docs/manual/smsd.md, "Lists").
use Rattle.std.specs.Prelude.{ℕ, List, bytes_eq, find, Option, None, Some}
use Rattle.sms_construct.specs.declared.extent.Extent.{Extent}
use Rattle.sms_construct.specs.declared.storage_group.StorGroup.{StorGroup}
use Rattle.sms_construct.specs.declared.vol_row.VolRow.{VolRow}
use Rattle.desk_law.specs.Candidates.{high_of}
use Rattle.desk_law.specs.Extents.{pieces_on}
use Rattle.volume_gaps.specs.LongestGap.{longest_gap}
use Rattle.store_report.specs.declared.listed_volume.ListedVolume.{ListedVolume}

-- the storage group of this name, if it is one of these
abbrev pub group_in : List StorGroup → List ℕ → Option StorGroup
group_in groups name = find (λ group. bytes_eq group.name name) groups

-- the low threshold of a storage group
abbrev pub low_of : Option StorGroup → ℕ
low_of None = 0
low_of (Some group) = group.low

-- a volume with the thresholds of its storage group, and the tracks of the longest gap that these extents leave there
abbrev pub listed_volume : List StorGroup → List Extent → VolRow → ListedVolume
listed_volume groups extents row = record {
  row = row;
  high = high_of (group_in groups row.group);
  low = low_of (group_in groups row.group);
  longest_gap = longest_gap row.capacity (pieces_on row.volser extents);
}
