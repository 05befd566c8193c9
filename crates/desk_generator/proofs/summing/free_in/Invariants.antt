use Rattle.std.proofs.Common.{◌≡◌, ◌≤◌, ◌*◌, take}
use Rattle.desk_generator.specs.Summary.{free_in}
use Rattle.desk_generator.proofs.summing.free_in.Given as goal

-- the tracks of the volumes that were gone over, each of fewer than 2 ^ 32
abbrev pub invariant-loop-row : goal.invariant-loop-row
invariant-loop-row l = (l.tracks ≡ free_in (take l.row-index l.rows)) × (l.tracks ≤ l.row-index * 4294967296)
