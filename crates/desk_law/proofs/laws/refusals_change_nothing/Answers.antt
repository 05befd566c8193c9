use Rattle.desk_law.proofs.StepLemmas.{step-still}
use Rattle.desk_law.proofs.laws.refusals_change_nothing.Goals as goal

pub returns : goal.returns
returns c = λ o before s after entry step quiet. step-still o before s entry after step quiet
