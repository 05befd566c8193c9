use Rattle.volume_reasons.proofs.LawLemmas.{answer-lawful, answer-told, quantity-lawful}
use Rattle.volume_reasons.proofs.laws.told_answers.Goals as goal

pub returns-clause-lawful : goal.returns-clause-lawful
returns-clause-lawful c = answer-lawful

pub returns-clause-told : goal.returns-clause-told
returns-clause-told c = answer-told

pub returns-clause-quantity : goal.returns-clause-quantity
returns-clause-quantity c = quantity-lawful
