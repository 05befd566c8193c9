use Rattle.sms_desk.proofs.HoldLemmas.{current-counted, holding-some}
use Rattle.sms_desk.proofs.laws.activations_are_held.Goals as goal

pub returns-clause-current : goal.returns-clause-current
returns-clause-current c = current-counted

pub returns-clause-some : goal.returns-clause-some
returns-clause-some c = holding-some
