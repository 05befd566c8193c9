use Rattle.std.proofs.Common.{◌≡◌, ◌++◌, take}
use Rattle.std.specs.Prelude.{flat_map}
use Rattle.csv.specs.Writing.{default_writer, row_text}
use Rattle.store_report.specs.ClassTable.{management_class_fields}
use Rattle.store_report.proofs.class_table.push_management_classes.Given as goal

-- the records of the classes so far
abbrev pub invariant-loop-class : goal.invariant-loop-class
invariant-loop-class l = l.text.items ≡ l.initial.text.items ++ flat_map (λ class. row_text default_writer (management_class_fields class)) (take l.class-index l.classes)
