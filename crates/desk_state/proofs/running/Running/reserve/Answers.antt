use Rattle.std.proofs.Common.{refl}
use Rattle.desk_state.proofs.StandLemmas.{with-room}
use Rattle.desk_state.proofs.running.Running.reserve.Goals as goal

pub returns-clause-same : goal.returns-clause-same
returns-clause-same c = λ s is. with-room s c.args.self.now _ refl refl refl c.reserve.ensures.same is
