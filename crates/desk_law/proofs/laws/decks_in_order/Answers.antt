use Rattle.desk_law.proofs.ActivationLemmas.{reaches-decked}
use Rattle.desk_law.proofs.laws.decks_in_order.Goals as goal

pub returns : goal.returns
returns c = λ o history s earlier decked reaches. reaches-decked o history s earlier decked reaches
