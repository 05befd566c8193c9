-- Storage groups with the sums of their volumes (docs/manual/smsd.md, "What pages show").
use Rattle.std.specs.Prelude.{ℕ, List, [], ◌∷◌, ◌+◌, bytes_eq, if◌then◌else◌}
use Rattle.page_text.specs.declared.group_row.GroupRow.{GroupRow}
use Rattle.page_text.specs.declared.shown_group.ShownGroup.{ShownGroup}
use Rattle.sms_construct.specs.declared.storage_group.StorGroup.{StorGroup}
use Rattle.sms_construct.specs.declared.vol_row.VolRow.{VolRow}

-- a group of no volumes
abbrev pub no_volumes : List ℕ → GroupRow
no_volumes name = record { group = name; volumes = 0; capacity = 0; free = 0 }

-- the sums with those of one volume more
abbrev pub with_volume : GroupRow → VolRow → GroupRow
with_volume row one = record {
  group = row.group;
  volumes = row.volumes + 1;
  capacity = row.capacity + one.capacity;
  free = row.free + one.free;
}

-- the sums with those of each of these volumes that is in the group
abbrev pub with_volumes : List ℕ → GroupRow → List VolRow → GroupRow
with_volumes name row [] = row
with_volumes name row (one ∷ others) =
    with_volumes name (if bytes_eq one.group name then with_volume row one else row) others

-- the group of this name: how many volumes it has, and their tracks together, all and the free ones
abbrev pub row_named : List VolRow → List ℕ → GroupRow
row_named rows name = with_volumes name (no_volumes name) rows

-- a storage group as its deck defines it, by the rows of the volumes
abbrev pub shown_group : List VolRow → StorGroup → ShownGroup
shown_group rows group = record {
  row = row_named rows group.name;
  high = group.high;
  low = group.low;
  overflow = group.overflow;
  breakpoint = group.breakpoint;
}
