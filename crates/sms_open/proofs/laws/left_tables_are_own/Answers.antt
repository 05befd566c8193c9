use Rattle.sms_open.proofs.OwnLemmas.{left-own}
use Rattle.sms_open.proofs.laws.left_tables_are_own.Goals as goal

pub returns : goal.returns
returns c = left-own
