use Rattle.std.proofs.Common.{}
use Rattle.sms_volumes.proofs.HandLemmas.{beside-found}
use Rattle.sms_volumes.proofs.RunningLemmas.{there-is}
use Rattle.sms_volumes.proofs.active_volume.ActiveVolume.take_from.Goals as goal

pub returns-in-Some-clause-others : goal.returns-in-Some-clause-others
returns-in-Some-clause-others c = λ volser off.
    let volumes = c.args.old.now.volumes.items in
    beside-found c.args.self.now.volume.volser volser volumes c.in-Some.place c.index_mut.result.now c.take_over.new.old c.in-Some.ensures.found
    (there-is volumes c.in-Some.place c.index_mut.result.now c.in-Some.ensures.within c.index_mut.ensures.value) c.take_over.ensures.named off
