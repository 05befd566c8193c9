use Rattle.deck_faults.proofs.LawLemmas.{first_is}
use Rattle.deck_faults.proofs.laws.first_is_validated.Goals as goal

pub returns : goal.returns
returns c = λ bytes faults fault h f. first_is h f
