-- The parts of the page of storage groups are its JSON.
use Rattle.std.proofs.Common.{◌≡◌, ◌++◌, List, refl, append_assoc}
use Rattle.json.specs.Print.{escape_byte}
use Rattle.page_text.specs.declared.shown_group.ShownGroup.{ShownGroup}
use Rattle.page_text.specs.GroupBodies.{shown_group_body, shown_groups_body}
use Rattle.page_text.specs.Inner.GroupPieces.{group_front, group_limits, shown_groups_text}

pub shown_group_is : (group : ShownGroup) → group_front group.row ++ group_limits group ≡ shown_group_body group
unfolding escape_byte
shown_group_is group = simp append_assoc refl

pub shown_groups_is : (groups : List ShownGroup) → shown_groups_text groups ≡ shown_groups_body groups
unfolding escape_byte
shown_groups_is groups = refl
