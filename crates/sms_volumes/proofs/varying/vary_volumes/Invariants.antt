use Rattle.std.proofs.Common.{◌≡◌}
use Rattle.sms_volumes.specs.Inner.Varied.{varied_volume}
use Rattle.sms_volumes.proofs.ZipLemmas.{IsOver}
use Rattle.sms_volumes.proofs.varying.vary_volumes.Given as goal

-- the volumes that were gone over are varied
abbrev pub invariant-loop-volume : goal.invariant-loop-volume
invariant-loop-volume l = IsOver (λ before after. after ≡ varied_volume l.volser l.status before) l.fn.volumes l.volume-items l.volume-index
