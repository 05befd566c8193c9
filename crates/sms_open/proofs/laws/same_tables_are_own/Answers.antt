use Rattle.sms_open.proofs.OwnLemmas.{same-own}
use Rattle.sms_open.proofs.laws.same_tables_are_own.Goals as goal

pub returns : goal.returns
returns c = same-own
