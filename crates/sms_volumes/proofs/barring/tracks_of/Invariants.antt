use Rattle.std.proofs.Common.{◌≡◌, drop}
use Rattle.desk_law.specs.Volumes.{tracks_of}
use Rattle.sms_volumes.proofs.barring.tracks_of.Given as goal

-- the volume is one of those that are left
abbrev pub invariant-loop-volume : goal.invariant-loop-volume
invariant-loop-volume l = tracks_of l.volser (drop l.volume-index l.volumes) ≡ tracks_of l.volser l.volumes
