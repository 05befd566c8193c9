use Rattle.std.proofs.Common.{◌≡◌, arith}
use Rattle.sms_volumes.specs.Inner.Varied.{varied_group}
use Rattle.sms_volumes.proofs.ZipLemmas.{over-next}
use Rattle.sms_volumes.proofs.varying.vary_groups.Goals as goal

pub loop-group-preserved : goal.loop-group-preserved
loop-group-preserved c =
    over-next (λ before after. after ≡ varied_group c.args.name.now c.args.status before) c.args.groups.now c.loop-group.group-items c.loop-group.group-index
    c.group-item.result c.vary.new.self (omega (arith, c.loop-group-test.true, c.loop-group.auto.group-items)) c.loop-group.invariant c.vary.ensures
