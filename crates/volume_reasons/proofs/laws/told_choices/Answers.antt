use Rattle.volume_reasons.proofs.LawLemmas.{may-lawful, may-told}
use Rattle.volume_reasons.proofs.laws.told_choices.Goals as goal

pub returns-clause-lawful : goal.returns-clause-lawful
returns-clause-lawful c = may-lawful

pub returns-clause-told : goal.returns-clause-told
returns-clause-told c = may-told
