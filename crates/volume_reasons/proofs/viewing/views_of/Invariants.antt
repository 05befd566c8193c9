use Rattle.std.proofs.Common.{◌≡◌, map, take}
use Rattle.desk_law.specs.Candidates.{view_of}
use Rattle.desk_law.specs.Lawful.{IsLawful}
use Rattle.desk_law.specs.State.{DeskState}
use Rattle.sms_volumes.specs.Asking.{ask_of}
use Rattle.sms_volumes.specs.Holding.{AreVolumesOf}
use Rattle.volume_reasons.specs.Inner.Views.{listed_among}
use Rattle.volume_reasons.proofs.viewing.views_of.Given as goal

-- the candidates among the volumes that were gone over
abbrev pub invariant-loop-place : goal.invariant-loop-place
invariant-loop-place l = (s : DeskState) → IsLawful s → AreVolumesOf s l.volumes
    → l.views.items ≡ map (view_of s (ask_of l.asked)) (listed_among l.groups (take l.place l.volumes.volumes.items))
