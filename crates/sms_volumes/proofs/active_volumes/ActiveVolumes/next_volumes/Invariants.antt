use Rattle.std.proofs.Common.{◌≡◌, map, take}
use Rattle.std.specs.List.{AllByRecursion}
use Rattle.sms_volumes.specs.Inner.Making.{IsMade}
use Rattle.sms_volumes.specs.declared.active_volume.ActiveVolume.{ActiveVolume}
use Rattle.sms_volumes.proofs.active_volumes.ActiveVolumes.next_volumes.Given as goal

-- the volumes that were gone over, as they will be
abbrev pub invariant-loop-volume : goal.invariant-loop-volume
invariant-loop-volume l =
    (map (λ (v : ActiveVolume). v.volume) l.next.items ≡ take l.volume-index l.volumes) × AllByRecursion (IsMade l.self.volumes.items l.groups) l.next.items
