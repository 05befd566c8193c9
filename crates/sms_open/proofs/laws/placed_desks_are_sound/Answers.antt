use Rattle.sms_open.proofs.OwnLemmas.{placed-sound}
use Rattle.sms_open.proofs.laws.placed_desks_are_sound.Goals as goal

pub returns : goal.returns
returns c = placed-sound
