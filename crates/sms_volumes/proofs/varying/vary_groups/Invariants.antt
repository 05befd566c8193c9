use Rattle.std.proofs.Common.{◌≡◌}
use Rattle.sms_volumes.specs.Inner.Varied.{varied_group}
use Rattle.sms_volumes.proofs.ZipLemmas.{IsOver}
use Rattle.sms_volumes.proofs.varying.vary_groups.Given as goal

-- the groups that were gone over are varied
abbrev pub invariant-loop-group : goal.invariant-loop-group
invariant-loop-group l = IsOver (λ before after. after ≡ varied_group l.name l.status before) l.fn.groups l.group-items l.group-index
