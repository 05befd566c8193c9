-- The parts of the page of storage groups as they are written.
use Rattle.std.specs.Prelude.{ℕ, List, ◌++◌, codes, decimal, false}
use Rattle.json.specs.Print.{quoted}
use Rattle.serde_json.specs.Data.{boolean}
use Rattle.serde_json.specs.Written.{compact_text, items_text}
use Rattle.page_text.specs.declared.group_row.GroupRow.{GroupRow}
use Rattle.page_text.specs.declared.shown_group.ShownGroup.{ShownGroup}
use Rattle.page_text.specs.GroupBodies.{shown_group_values}

-- the name of a storage group, and the sums of its volumes
abbrev pub group_front : GroupRow → List ℕ
group_front row =
    codes "{\"group\":" ++ (quoted row.group ++ (codes ",\"volumes\":" ++ (decimal row.volumes
    ++ (codes ",\"capacity\":" ++ (decimal row.capacity ++ (codes ",\"free\":" ++ decimal row.free))))))

-- its thresholds
abbrev pub group_thresholds : ShownGroup → List ℕ
group_thresholds group = codes ",\"high\":" ++ (decimal group.high ++ (codes ",\"low\":" ++ decimal group.low))

-- whether it is an overflow group, and its breakpoint
abbrev pub group_rest : ShownGroup → List ℕ
group_rest group =
    codes ",\"overflow\":" ++ (compact_text (boolean group.overflow)
    ++ (codes ",\"breakpoint\":" ++ (decimal group.breakpoint ++ codes "}")))

-- how its deck defines it
abbrev pub group_limits : ShownGroup → List ℕ
group_limits group = group_thresholds group ++ group_rest group

-- all storage groups
abbrev pub shown_groups_text : List ShownGroup → List ℕ
shown_groups_text groups = codes "{\"groups\":[" ++ (items_text false (shown_group_values groups) ++ codes "}")
