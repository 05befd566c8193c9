use Rattle.sms_manage.proofs.ActLemmas.{unused_all}
use Rattle.sms_manage.proofs.day.unused_from_one.Goals as goal

pub returns : goal.returns
returns g c = unused_all _ _ c.requires
