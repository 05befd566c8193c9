-- The kinds stand one behind the other.
use Rattle.std.proofs.Common.{◌++◌, ◌∙◌, ap}
use Rattle.store_report.specs.ClassTable.{classes_records}
use Rattle.store_report.proofs.ClassLemmas.{three_behind}
use Rattle.store_report.proofs.class_table.classes_csv.Goals as goal

pub returns : goal.returns
returns c =
    three_behind _ _ _ _ _ _ _ c.in_ok-push_management_classes.ensures c.in_ok-push_storage_classes.ensures c.in_ok-push_data_classes.ensures
    ∙ ap (λ l. l ++ classes_records c.args.data_classes.now c.args.storage_classes.now c.args.management_classes.now) c.in_ok-text.ensures
