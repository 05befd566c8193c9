use Rattle.sms_open.proofs.OwnLemmas.{own-verdict}
use Rattle.sms_open.proofs.laws.own_tables_pass.Goals as goal

pub returns : goal.returns
returns c = own-verdict
