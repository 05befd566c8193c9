use Rattle.std.proofs.Common.{}
use Rattle.sms_volumes.specs.Inner.Handing.{AreApart}
use Rattle.sms_volumes.proofs.HandLemmas.{IsTaking}
use Rattle.sms_volumes.proofs.handing.take_each.Given as goal

-- the volumes that were gone over have taken over what is theirs
abbrev pub invariant-loop-volume : goal.invariant-loop-volume
invariant-loop-volume l = AreApart l.fn.volumes → IsTaking l.fn.old.volumes.items l.old.volumes.items l.fn.volumes l.volume-items l.volume-index
