use Rattle.desk_law.proofs.HistoryLemmas.{legal-stands}
use Rattle.desk_law.proofs.laws.places_in_order.Goals as goal

pub returns : goal.returns
returns c = λ o front rest entry legal. let there = legal-stands o front rest entry legal in there.step.place
