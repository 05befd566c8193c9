-- The text of each list in each form (docs/manual/smsd.md, "Lists").
use Rattle.std.specs.Prelude.{ℕ, List, [], ◌∷◌, ◌++◌, None}
use Rattle.page_text.specs.PageBodies.{groups_body, sets_body}
use Rattle.page_text.specs.declared.group_row.GroupRow.{GroupRow}
use Rattle.sms_construct.specs.declared.data_class.DataClass.{DataClass}
use Rattle.sms_construct.specs.declared.data_set.DataSet.{DataSet}
use Rattle.sms_construct.specs.declared.management_class.MgmtClass.{MgmtClass}
use Rattle.sms_construct.specs.declared.storage_class.StorClass.{StorClass}
use Rattle.store_report.specs.ClassTable.{classes_table}
use Rattle.store_report.specs.ClassesJson.{classes_body}
use Rattle.store_report.specs.Columns.{classes_widths, columns_of, extents_widths, groups_widths, sets_widths}
use Rattle.store_report.specs.Columns.{volumes_widths}
use Rattle.store_report.specs.ExtentsJson.{extents_body}
use Rattle.store_report.specs.Tables.{extents_table, groups_table, sets_table}
use Rattle.store_report.specs.VolumeTable.{volumes_table}
use Rattle.store_report.specs.VolumesJson.{volumes_body}
use Rattle.store_report.specs.declared.extent_row.ExtentRow.{ExtentRow}
use Rattle.store_report.specs.declared.format.Format.{Format}
use Rattle.store_report.specs.declared.listed_volume.ListedVolume.{ListedVolume}
use Rattle.store_report.specs.declared.format.Format.TheVariants.{Csv, Json, Text}

-- a value of JSON as a line
abbrev pub line_of : List ℕ → List ℕ
line_of body = body ++ 10 ∷ []

-- storage groups
abbrev pub groups_text : Format → List GroupRow → List ℕ
groups_text Csv rows = groups_table rows
groups_text Json rows = line_of (groups_body rows)
groups_text Text rows = columns_of groups_widths (groups_table rows)

-- volumes
abbrev pub volumes_text : Format → List ListedVolume → List ℕ
volumes_text Csv volumes = volumes_table volumes
volumes_text Json volumes = line_of (volumes_body volumes)
volumes_text Text volumes = columns_of volumes_widths (volumes_table volumes)

-- classes, kind by kind
abbrev pub classes_text : Format → List DataClass → List StorClass → List MgmtClass → List ℕ
classes_text Csv data_classes storage_classes management_classes =
    classes_table data_classes storage_classes management_classes
classes_text Json data_classes storage_classes management_classes =
    line_of (classes_body data_classes storage_classes management_classes)
classes_text Text data_classes storage_classes management_classes =
    columns_of classes_widths (classes_table data_classes storage_classes management_classes)

-- data sets
abbrev pub sets_text : Format → List DataSet → List ℕ
sets_text Csv sets = sets_table sets
sets_text Json sets = line_of (sets_body sets None)
sets_text Text sets = columns_of sets_widths (sets_table sets)

-- extents
abbrev pub extents_text : Format → List ExtentRow → List ℕ
extents_text Csv rows = extents_table rows
extents_text Json rows = line_of (extents_body rows)
extents_text Text rows = columns_of extents_widths (extents_table rows)
