-- The volume is one of those that are left.
use Rattle.std.proofs.Common.{◌≡◌, drop}
use Rattle.desk_law.specs.Volumes.{tracks_of}
use Rattle.desk_pages.proofs.checking.tracks_of.Given as goal

abbrev pub invariant-loop-volume : goal.invariant-loop-volume
invariant-loop-volume l = tracks_of l.volser (drop l.volume-index l.volumes) ≡ tracks_of l.volser l.volumes
