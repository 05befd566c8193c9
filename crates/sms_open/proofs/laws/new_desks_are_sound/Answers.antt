use Rattle.sms_open.proofs.OwnLemmas.{empty-sound}
use Rattle.sms_open.proofs.laws.new_desks_are_sound.Goals as goal

pub returns : goal.returns
returns c = empty-sound
