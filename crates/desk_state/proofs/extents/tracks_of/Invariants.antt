use Rattle.std.proofs.Common.{◌≡◌, ◌≤◌, ◌*◌, take}
use Rattle.desk_state.specs.Inner.Sums.{tracks_in}
use Rattle.desk_state.proofs.extents.tracks_of.Given as goal

-- the tracks of the extents that were gone over, each of fewer than 2 ^ 32
abbrev pub invariant-loop-extent : goal.invariant-loop-extent
invariant-loop-extent l = (l.tracks ≡ tracks_in (take l.extent-index l.extents)) × (l.tracks ≤ l.extent-index * 4294967296)
