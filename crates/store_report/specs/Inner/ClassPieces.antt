-- The parts of classes as they are written in JSON.
use Rattle.std.specs.Prelude.{ℕ, List, Option, ◌++◌, codes, false}
use Rattle.json.specs.Print.{quoted}
use Rattle.serde_json.specs.Data.{boolean}
use Rattle.serde_json.specs.Written.{compact_text, items_text}
use Rattle.page_text.specs.PageBodies.{count_if, eattr_text}
use Rattle.sms_construct.specs.Quantities.{Quantities}
use Rattle.sms_construct.specs.declared.data_class.DataClass.{DataClass}
use Rattle.sms_construct.specs.declared.management_class.MgmtClass.{MgmtClass}
use Rattle.sms_construct.specs.declared.storage_class.StorClass.{StorClass}
use Rattle.store_report.specs.ClassTable.{primary_of, secondary_of}
use Rattle.store_report.specs.ClassesJson.{data_class_values, management_class_values, storage_class_values, unit_if}

-- a space
abbrev pub space_piece : Option Quantities → List ℕ
space_piece space =
    codes ",\"unit\":" ++ (compact_text (unit_if space) ++ (codes ",\"primary\":"
    ++ (compact_text (count_if (primary_of space)) ++ (codes ",\"secondary\":"
    ++ compact_text (count_if (secondary_of space))))))

-- the name of a class, at its front
abbrev pub name_piece : List ℕ → List ℕ
name_piece name = codes "{\"name\":" ++ quoted name

-- what stands behind the space of a data class
abbrev pub data_class_rest : DataClass → List ℕ
data_class_rest class =
    codes ",\"volcount\":" ++ (compact_text (count_if class.volumes) ++ (codes ",\"eattr\":"
    ++ (quoted (eattr_text class.eattr) ++ codes "}")))

-- a class of each other kind

abbrev pub storage_class_piece : StorClass → List ℕ
storage_class_piece class =
    codes "{\"name\":" ++ (quoted class.name ++ (codes ",\"multi_tier\":"
    ++ (compact_text (boolean class.multi_tier) ++ codes "}")))

abbrev pub management_class_piece : MgmtClass → List ℕ
management_class_piece class =
    codes "{\"name\":" ++ (quoted class.name ++ (codes ",\"expire_after\":"
    ++ (compact_text (count_if class.expire_after) ++ (codes ",\"release\":"
    ++ (compact_text (boolean class.release) ++ codes "}")))))

-- all classes
abbrev pub classes_piece : List DataClass → List StorClass → List MgmtClass → List ℕ
classes_piece data_classes storage_classes management_classes =
    codes "{\"dataclas\":[" ++ (items_text false (data_class_values data_classes) ++ (codes ",\"storclas\":["
    ++ (items_text false (storage_class_values storage_classes) ++ (codes ",\"mgmtclas\":["
    ++ (items_text false (management_class_values management_classes) ++ codes "}")))))
