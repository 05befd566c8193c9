use Rattle.std.specs.Prelude.{[]}
use Rattle.desk_law.specs.State.{start_of}
use Rattle.desk_law.proofs.HistoryLemmas.{leads-one}
use Rattle.desk_law.proofs.laws.one_state.Goals as goal

pub returns : goal.returns
returns c = λ o history s t one two. leads-one o [] (start_of o) history s t one two
