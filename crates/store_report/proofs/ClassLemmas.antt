-- The parts of classes are their JSON.
use Rattle.std.proofs.Common.{◌≡◌, ◌∙◌, ◌++◌, ℕ, List, ap, append_assoc, refl}
use Rattle.json.specs.Print.{escape_byte}
use Rattle.sms_construct.specs.declared.data_class.DataClass.{DataClass}
use Rattle.sms_construct.specs.declared.management_class.MgmtClass.{MgmtClass}
use Rattle.sms_construct.specs.declared.storage_class.StorClass.{StorClass}
use Rattle.store_report.specs.ClassesJson.{classes_body, data_class_body, management_class_body, storage_class_body}
use Rattle.store_report.specs.Inner.ClassPieces.{classes_piece, data_class_rest, management_class_piece, name_piece, space_piece, storage_class_piece}

pub data_class_is : (class : DataClass) → name_piece class.name ++ (space_piece class.space ++ data_class_rest class) ≡ data_class_body class
unfolding escape_byte
data_class_is class = simp append_assoc refl

-- three texts that are put one behind the other
pub three_behind : (all two one old x y z : List ℕ) → all ≡ two ++ z → two ≡ one ++ y → one ≡ old ++ x → all ≡ old ++ (x ++ (y ++ z))
three_behind all two one old x y z e f g = e ∙ ap (λ l. l ++ z) (f ∙ ap (λ l. l ++ y) g) ∙ append_assoc (old ++ x) y z ∙ append_assoc old x (y ++ z)

pub storage_class_is : (class : StorClass) → storage_class_piece class ≡ storage_class_body class
unfolding escape_byte
storage_class_is class = refl

pub management_class_is : (class : MgmtClass) → management_class_piece class ≡ management_class_body class
unfolding escape_byte
management_class_is class = refl

pub classes_are : (data_classes : List DataClass) (storage_classes : List StorClass) (management_classes : List MgmtClass) → classes_piece data_classes storage_classes management_classes ≡ classes_body data_classes storage_classes management_classes
unfolding escape_byte
classes_are data_classes storage_classes management_classes = refl
