use Rattle.std.proofs.Common.{◌++◌, List, drop, take}
use Rattle.desk_law.specs.State.{DeskState}
use Rattle.desk_law.specs.Lawful.{IsLawful}
use Rattle.sms_volumes.specs.Holding.{AreVolumesOf}
use Rattle.sms_volumes.specs.Inner.Leading.{Leads, candidates_among}
use Rattle.sms_volumes.specs.declared.active_volume.ActiveVolume.{ActiveVolume}
use Rattle.sms_volumes.proofs.active_volumes.ActiveVolumes.look_over.Given as goal

-- of the volumes that were looked at before and those that were gone over one leads
abbrev pub invariant-loop-place : goal.invariant-loop-place
invariant-loop-place l = (s : DeskState) (seen : List ActiveVolume) → IsLawful s → AreVolumesOf s l.self → Leads s l.self (candidates_among l.candidates seen) l.asked l.initial.lead
    → Leads s l.self (candidates_among l.candidates (seen ++ drop l.from (take l.place l.self.volumes.items))) l.asked l.lead
