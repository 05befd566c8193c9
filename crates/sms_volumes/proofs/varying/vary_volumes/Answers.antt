use Rattle.std.proofs.Common.{◌≡◌, arith}
use Rattle.sms_volumes.specs.Inner.Varied.{varied_volume}
use Rattle.sms_volumes.proofs.ZipLemmas.{over-next}
use Rattle.sms_volumes.proofs.varying.vary_volumes.Goals as goal

pub loop-volume-preserved : goal.loop-volume-preserved
loop-volume-preserved c =
    over-next (λ before after. after ≡ varied_volume c.args.volser.now c.args.status before) c.args.volumes.now c.loop-volume.volume-items c.loop-volume.volume-index
    c.volume-item.result c.vary.new.self (omega (arith, c.loop-volume-test.true, c.loop-volume.auto.volume-items)) c.loop-volume.invariant c.vary.ensures
