use Rattle.std.proofs.Common.{◌≡◌, ◌≤◌, ◌+◌, length, take, drop}
use Rattle.desk_law.specs.Extents.{volumes_after, volumes_of}
use Rattle.desk_state.proofs.SpreadLemmas.{serials}
use Rattle.desk_state.proofs.extents.count_volumes.Given as goal

-- the volumes so far, and those that come first among the extents that are left
abbrev pub invariant-loop-place : goal.invariant-loop-place
invariant-loop-place l =
    (l.count + length (volumes_after (serials (take l.place l.extents)) (drop l.place l.extents)) ≡ length (volumes_of l.extents)) × (l.count ≤ l.place)
