use Rattle.sms_open.proofs.OwnLemmas.{opened-sound}
use Rattle.sms_open.proofs.laws.opened_desks_are_sound.Goals as goal

pub returns : goal.returns
returns c = opened-sound
