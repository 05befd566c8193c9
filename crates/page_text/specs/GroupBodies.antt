-- The body of the page of storage groups (docs/manual/smsd.md, "What pages show").
use Rattle.std.specs.Prelude.{ℕ, List, [], ◌∷◌, codes}
use Rattle.serde_json.specs.Data.{Data, boolean, string, array, object, Items, no_items, item, Members, no_members}
use Rattle.serde_json.specs.Data.{member}
use Rattle.serde_json.specs.Written.{compact_text}
use Rattle.page_text.specs.declared.shown_group.ShownGroup.{ShownGroup}
use Rattle.page_text.specs.PageBodies.{count}

-- how the deck defines a storage group: its thresholds, whether it is an overflow group, and its breakpoint
abbrev pub limit_members : ShownGroup → Members
limit_members group =
    member (codes "high") (count group.high)
    (member (codes "low") (count group.low)
    (member (codes "overflow") (boolean group.overflow)
    (member (codes "breakpoint") (count group.breakpoint) no_members)))

-- a storage group: its name, how many volumes it has, their tracks together, all and the free ones, and how its deck
-- defines it
abbrev pub shown_group_value : ShownGroup → Data
shown_group_value group =
    object
    (member (codes "group") (string group.row.group)
    (member (codes "volumes") (count group.row.volumes)
    (member (codes "capacity") (count group.row.capacity)
    (member (codes "free") (count group.row.free) (limit_members group)))))

-- storage groups, in their order
abbrev pub shown_group_values : List ShownGroup → Items
shown_group_values [] = no_items
shown_group_values (group ∷ groups) = item (shown_group_value group) (shown_group_values groups)

-- a storage group as the page has it
abbrev pub shown_group_body : ShownGroup → List ℕ
shown_group_body group = compact_text (shown_group_value group)

-- the page of all storage groups
abbrev pub shown_groups_body : List ShownGroup → List ℕ
shown_groups_body groups =
    compact_text (object (member (codes "groups") (array (shown_group_values groups)) no_members))
