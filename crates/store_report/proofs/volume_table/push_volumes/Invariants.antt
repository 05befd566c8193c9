use Rattle.std.proofs.Common.{◌≡◌, ◌++◌, take}
use Rattle.std.specs.Prelude.{flat_map}
use Rattle.csv.specs.Writing.{default_writer, row_text}
use Rattle.store_report.specs.VolumeTable.{volume_fields}
use Rattle.store_report.proofs.volume_table.push_volumes.Given as goal

-- the records of the volumes so far
abbrev pub invariant-loop-volume : goal.invariant-loop-volume
invariant-loop-volume l = l.text.items ≡ l.initial.text.items ++ flat_map (λ volume. row_text default_writer (volume_fields volume)) (take l.volume-index l.volumes)
