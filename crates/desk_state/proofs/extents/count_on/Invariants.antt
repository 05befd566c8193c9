use Rattle.std.proofs.Common.{◌≡◌, ◌≤◌, length, take}
use Rattle.desk_law.specs.Extents.{pieces_on}
use Rattle.desk_state.proofs.extents.count_on.Given as goal

-- the extents on the volume among those that were gone over
abbrev pub invariant-loop-extent : goal.invariant-loop-extent
invariant-loop-extent l = (l.count ≡ length (pieces_on l.volser (take l.extent-index l.extents))) × (l.count ≤ l.extent-index)
