use Rattle.std.proofs.Common.{◌≡◌, drop}
use Rattle.std.specs.Prelude.{nat_lt}
use Rattle.desk_law.specs.Extents.{front_tracks}
use Rattle.desk_state.specs.Inner.Sums.{tracks_in}
use Rattle.desk_state.proofs.extents.frees_any.Given as goal

-- a track is freed where one is freed of the extents that are left
abbrev pub invariant-loop-extent : goal.invariant-loop-extent
invariant-loop-extent l =
    nat_lt (tracks_in (front_tracks l.left (drop l.extent-index l.extents))) (tracks_in (drop l.extent-index l.extents))
    ≡ nat_lt (tracks_in (front_tracks l.fn.keep l.extents)) (tracks_in l.extents)
