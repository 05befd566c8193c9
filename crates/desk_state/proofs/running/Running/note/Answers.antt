use Rattle.std.proofs.Common.{refl}
use Rattle.sms_volumes.proofs.RunningLemmas.{all-same}
use Rattle.desk_state.proofs.ApplyLemmas.{put-running}
use Rattle.desk_state.proofs.running.Running.note.Goals as goal

pub returns : goal.returns
returns c = λ s lawful is same.
    put-running s c.args.set c.args.self.now _ refl refl c.put.ensures (all-same s c.args.set c.args.self.now.volumes lawful is.volumes same) is
