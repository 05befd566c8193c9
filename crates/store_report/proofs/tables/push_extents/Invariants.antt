use Rattle.std.proofs.Common.{◌≡◌, ◌++◌, take}
use Rattle.std.specs.Prelude.{flat_map}
use Rattle.csv.specs.Writing.{default_writer, row_text}
use Rattle.store_report.specs.Tables.{extent_fields}
use Rattle.store_report.proofs.tables.push_extents.Given as goal

-- the records of the extents so far
abbrev pub invariant-loop-row : goal.invariant-loop-row
invariant-loop-row l = l.text.items ≡ l.initial.text.items ++ flat_map (λ row. row_text default_writer (extent_fields row)) (take l.row-index l.rows)
