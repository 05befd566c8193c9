use Rattle.std.proofs.Common.{◌≡◌, take}
use Rattle.desk_law.specs.Extents.{extents_of}
use Rattle.sms_open.proofs.meeting.all_extents.Given as goal

-- the extents of the data sets that were gone over
abbrev pub invariant-loop-set : goal.invariant-loop-set
invariant-loop-set l = l.extents.items ≡ extents_of (take l.set-index l.sets)
