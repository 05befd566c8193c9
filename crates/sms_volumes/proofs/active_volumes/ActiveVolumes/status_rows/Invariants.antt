use Rattle.std.proofs.Common.{◌≡◌, ◌++◌, map, take}
use Rattle.sms_volumes.specs.StatusRows.{group_row, volume_row}
use Rattle.sms_volumes.proofs.active_volumes.ActiveVolumes.status_rows.Given as goal

-- the rows of the groups that were gone over
abbrev pub invariant-loop-group : goal.invariant-loop-group
invariant-loop-group l = l.rows.items ≡ map group_row (take l.group-index l.self.groups.items)

-- the rows of all groups, and of the volumes that were gone over
abbrev pub invariant-loop-volume : goal.invariant-loop-volume
invariant-loop-volume l = l.rows.items ≡ map group_row l.self.groups.items ++ map volume_row (take l.volume-index l.self.volumes.items)
