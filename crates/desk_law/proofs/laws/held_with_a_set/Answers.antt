use Rattle.desk_law.proofs.CountLemmas.{alike-put, all-put}
use Rattle.desk_law.proofs.laws.held_with_a_set.Goals as goal

pub returns : goal.returns
returns c = record {
  counts = λ s set volser count lawful. all-put count volser set s.sets (lawful.names set.dsn);
  alike = λ s set volser lawful. alike-put volser set s.sets (lawful.names set.dsn);
}
