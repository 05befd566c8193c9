use Rattle.std.specs.Prelude.{[]}
use Rattle.desk_law.specs.State.{start_of}
use Rattle.desk_law.proofs.HistoryLemmas.{leads-lawful}
use Rattle.desk_law.proofs.laws.lawful_always.Goals as goal

pub returns : goal.returns
returns c = λ o history s lawful reaches. leads-lawful o [] (start_of o) history s lawful reaches
