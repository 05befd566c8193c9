use Rattle.std.proofs.Common.{◌≡◌, ◌≤◌, ◌*◌, take}
use Rattle.desk_generator.specs.Summary.{granted_in}
use Rattle.desk_generator.proofs.summing.granted_in.Given as goal

-- the tracks of the volumes that were gone over, each of fewer than 2 ^ 32
abbrev pub invariant-loop-row : goal.invariant-loop-row
invariant-loop-row l = (l.tracks ≡ granted_in (take l.row-index l.rows)) × (l.tracks ≤ l.row-index * 4294967296)
