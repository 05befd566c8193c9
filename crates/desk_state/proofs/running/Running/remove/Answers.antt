use Rattle.std.proofs.Common.{◌∙◌, refl}
use Rattle.desk_state.proofs.ApplyLemmas.{drop-running}
use Rattle.desk_state.proofs.StandLemmas.{found-lies}
use Rattle.desk_state.proofs.running.Running.remove.Goals as goal

pub release-requires : goal.release-requires
release-requires c = found-lies c.args.self.now c.requires.stands c.args.dsn.now _ c.get.ensures

pub returns : goal.returns
returns c = λ s lawful is.
    drop-running s c.args.dsn.now c.args.self.now _ refl refl c.remove.ensures (c.release.ensures s c.args.dsn.now lawful is.volumes (c.get.ensures ∙ is.sets c.args.dsn.now)) is
