use Rattle.desk_restoring.specs.Inner.Replaying.{fresh_state}
use Rattle.desk_restoring.proofs.StatusRowLemmas.{lawful-fresh}
use Rattle.desk_restoring.proofs.configuring.volumes_under.Goals as goal

pub returns : goal.returns
returns c = c.vary_each.ensures (fresh_state c.args.config.now) (lawful-fresh c.args.config.now c.requires.config) c.in_ok-volumes.ensures
