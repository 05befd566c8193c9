use Rattle.desk_law.proofs.ActivationLemmas.{reaches-counts}
use Rattle.desk_law.proofs.laws.activations_are_counted.Goals as goal

pub returns : goal.returns
returns c = λ o history s earlier reaches. reaches-counts o history s earlier reaches
