use Rattle.desk_law.proofs.CountLemmas.{alike-without, all-without}
use Rattle.desk_law.proofs.laws.held_without_a_set.Goals as goal

pub returns : goal.returns
returns c = record {
  counts = λ s dsn volser count lawful. all-without count volser dsn s.sets (lawful.names dsn);
  alike = λ s dsn volser lawful. alike-without volser dsn s.sets (lawful.names dsn);
}
