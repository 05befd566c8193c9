use Rattle.std.proofs.Common.{◌≡◌, map, take}
use Rattle.sms_volumes.specs.Inner.Showing.{running_row}
use Rattle.sms_volumes.proofs.active_volumes.ActiveVolumes.rows.Given as goal

-- the rows of the volumes that were gone over
abbrev pub invariant-loop-volume : goal.invariant-loop-volume
invariant-loop-volume l = l.rows.items ≡ map running_row (take l.volume-index l.self.volumes.items)
