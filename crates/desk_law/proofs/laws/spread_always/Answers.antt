use Rattle.std.specs.Prelude.{[]}
use Rattle.desk_law.specs.State.{start_of}
use Rattle.desk_law.specs.Lawful.{IsSpread}
use Rattle.desk_law.proofs.EachLemmas.{leads-each}
use Rattle.desk_law.proofs.SpreadLawLemmas.{spread-stays}
use Rattle.desk_law.proofs.laws.spread_always.Goals as goal

pub returns : goal.returns
returns c = λ o history s lawful spread reaches. leads-each IsSpread spread-stays o [] (start_of o) history s lawful spread reaches
