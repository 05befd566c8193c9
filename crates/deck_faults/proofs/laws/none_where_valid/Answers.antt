use Rattle.deck_faults.proofs.LawLemmas.{none_where}
use Rattle.deck_faults.proofs.laws.none_where_valid.Goals as goal

pub returns : goal.returns
returns c = λ bytes faults h. none_where h
