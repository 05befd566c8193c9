use Rattle.std.proofs.Common.{arith}
use Rattle.sms_open.proofs.OpeningLemmas.{sound-behind}
use Rattle.sms_open.proofs.ReopeningLemmas.{rows-refused}
use Rattle.sms_open.proofs.reopening.go_on.Goals as goal

pub returns-in-Err-clause-refused : goal.returns-in-Err-clause-refused
returns-in-Err-clause-refused g c = rw c.refusal_of_rows.ensures (rows-refused _ _ c.args.rows c.in-Err.err c.requires.undamaged c.requires.loaded c.in-Err.ensures.verdict)

pub resume_behind-requires-clause-sound : goal.resume_behind-requires-clause-sound
resume_behind-requires-clause-sound g c = sound-behind _ c.args.rows _ (omega arith) c.in-Ok.ensures.opening
