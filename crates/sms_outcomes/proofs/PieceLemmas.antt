-- The parts of records are their JSON.
use Rattle.std.proofs.Common.{◌≡◌, ◌++◌, ◌∙◌, ℕ, List, ap, append_assoc, refl, false}
use Rattle.json.specs.Print.{escape_byte}
use Rattle.serde_json.specs.Written.{compact_text, members_text}
use Rattle.desk_law.specs.Classification.{Classes}
use Rattle.sms_script.specs.declared.item.Item.{Item}
use Rattle.sms_outcomes.specs.Inner.Pieces.{item_piece, side_piece}
use Rattle.sms_outcomes.specs.ItemRecords.{item_value}
use Rattle.sms_outcomes.specs.Outcomes.{side_members}

-- a part, and what stands behind it
pub behind : (before part first rest now : List ℕ) → first ≡ before ++ part → now ≡ first ++ rest → now ≡ before ++ (part ++ rest)
behind before part first rest now e f = f ∙ ap (λ (t : List ℕ). t ++ rest) e ∙ append_assoc before part rest

pub side_is : (classes : Classes) → side_piece classes ≡ members_text false (side_members classes)
unfolding escape_byte
side_is classes = refl

pub item_is : (item : Item) (classes : Classes) → item_piece item classes ≡ compact_text (item_value item classes)
unfolding escape_byte
item_is item classes = simp append_assoc refl
