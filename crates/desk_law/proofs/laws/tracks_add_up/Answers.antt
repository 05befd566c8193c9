use Rattle.std.proofs.Common.{arith}
use Rattle.desk_law.proofs.SumLemmas.{held-and-free}
use Rattle.desk_law.proofs.laws.tracks_add_up.Goals as goal

pub returns : goal.returns
returns c = record {
  sum = λ s config volume position lawful is there. omega (arith, held-and-free s config volume position lawful is there);
  free = λ s config volume position lawful is there. omega (arith, held-and-free s config volume position lawful is there);
}
