use Rattle.std.proofs.Common.{refl}
use Rattle.sms_volumes.proofs.RunningLemmas.{all-installed}
use Rattle.sms_volumes.proofs.active_volumes.ActiveVolumes.install.Goals as goal

pub returns : goal.returns
returns c = λ s set volume lawful are there at.
    all-installed s set c.args.self.now _ c.args.place volume c.index_mut-volume.result.now c.install.new.self c.args.pieces.now lawful are there c.index_mut-volume.ensures.value c.install.ensures.capacity
    c.install.ensures.held at refl refl
