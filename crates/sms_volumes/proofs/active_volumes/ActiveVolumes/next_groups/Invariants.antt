use Rattle.std.proofs.Common.{◌≡◌, map, take}
use Rattle.sms_volumes.specs.Inner.Making.{next_group}
use Rattle.sms_volumes.proofs.active_volumes.ActiveVolumes.next_groups.Given as goal

-- the groups that were gone over, as they will be
abbrev pub invariant-loop-group : goal.invariant-loop-group
invariant-loop-group l = l.next.items ≡ map (next_group l.self.groups.items l.volumes) (take l.group-index l.groups)
