use Rattle.std.proofs.Common.{◌≡◌, drop}
use Rattle.sms_volumes.specs.Viewing.{running_named}
use Rattle.sms_volumes.proofs.active_volumes.ActiveVolumes.place_of.Given as goal

-- the volume is one of those that are left
abbrev pub invariant-loop-place : goal.invariant-loop-place
invariant-loop-place l = running_named l.volser (drop l.place l.self.volumes.items) ≡ running_named l.volser l.self.volumes.items
