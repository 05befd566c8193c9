use Rattle.std.proofs.Common.{refl}
use Rattle.desk_state.proofs.ApplyLemmas.{put-running}
use Rattle.desk_state.proofs.running.Running.get.Goals as goal

pub returns : goal.returns
returns c = λ s lawful is more.
    put-running s c.args.set c.args.self.now _ refl refl c.put.ensures (c.install.ensures s c.args.set more.volume lawful is.volumes more.at more.extents) is
