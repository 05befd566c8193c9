use Rattle.volume_reasons.proofs.LawLemmas.{reason-holds, reason-none}
use Rattle.volume_reasons.proofs.laws.told_reasons.Goals as goal

pub returns-clause-holds : goal.returns-clause-holds
returns-clause-holds c = reason-holds

pub returns-clause-primary : goal.returns-clause-primary
returns-clause-primary c = reason-none
