use Rattle.std.proofs.Common.{◌≡◌, ◌++◌, take}
use Rattle.std.specs.Prelude.{flat_map}
use Rattle.csv.specs.Writing.{default_writer, row_text}
use Rattle.sms_report.specs.VolumesTable.{volume_fields}
use Rattle.sms_report.proofs.csv_text.push_rows.Given as goal

-- the records of the rows so far
abbrev pub invariant-loop-row : goal.invariant-loop-row
invariant-loop-row l = l.text.items ≡ l.initial.text.items ++ flat_map (λ row. row_text default_writer (volume_fields row)) (take l.row-index l.rows)
