use Rattle.std.proofs.Common.{arith}
use Rattle.sms_volumes.proofs.HandLemmas.{taking-next}
use Rattle.sms_volumes.proofs.handing.take_each.Goals as goal

pub loop-volume-preserved : goal.loop-volume-preserved
loop-volume-preserved c = λ apart.
    taking-next c.args.old.now.volumes.items c.loop-volume.old.volumes.items c.take_from.new.old.volumes.items c.args.volumes.now c.loop-volume.volume-items c.loop-volume.volume-index
    c.volume-item.result c.take_from.new.self (omega (arith, c.loop-volume-test.true, c.loop-volume.auto.volume-items)) apart (c.loop-volume.invariant apart) c.take_from.ensures.taken c.take_from.ensures.others
