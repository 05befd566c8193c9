use Rattle.std.proofs.Common.{◌≡◌, ◌++◌, drop}
use Rattle.desk_law.specs.Extents.{front_tracks}
use Rattle.desk_state.proofs.extents.front_of.Given as goal

-- the front so far, and the rest of it among the extents that are left
abbrev pub invariant-loop-extent : goal.invariant-loop-extent
invariant-loop-extent l = l.front.items ++ front_tracks l.left (drop l.extent-index l.extents) ≡ front_tracks l.fn.keep l.extents
