use Rattle.desk_state.proofs.FewLemmas.{found-few}
use Rattle.desk_state.proofs.running.Running.found.Goals as goal

pub returns-clause-few : goal.returns-clause-few
returns-clause-few c = found-few c.args.self.now c.requires c.args.dsn.now
