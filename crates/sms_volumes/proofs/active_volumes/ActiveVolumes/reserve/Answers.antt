use Rattle.std.proofs.Common.{refl}
use Rattle.sms_volumes.proofs.RunningLemmas.{all-roomier, named-at, ready-if}
use Rattle.sms_volumes.proofs.active_volumes.ActiveVolumes.reserve.Goals as goal

pub returns-clause-same : goal.returns-clause-same
returns-clause-same c = λ s are.
    all-roomier s c.args.self.now _ c.args.place c.index_mut-volume.result.now c.reserve.new.self are c.requires.place c.index_mut-volume.ensures.value c.reserve.ensures.capacity c.reserve.ensures.gaps
    c.reserve.ensures.extents refl refl

pub returns-clause-ready : goal.returns-clause-ready
returns-clause-ready c =
    ready-if c.reserve.result c.args.self.now _ c.args.place c.index_mut-volume.result.now c.reserve.new.self c.requires.place c.index_mut-volume.ensures.value c.reserve.ensures.capacity c.reserve.ensures.gaps
    c.reserve.ensures.room refl

pub returns-clause-named : goal.returns-clause-named
returns-clause-named c = named-at c.args.self.now.volumes.items c.args.place c.index_mut-volume.result.now _ c.requires.place c.index_mut-volume.ensures.value refl
