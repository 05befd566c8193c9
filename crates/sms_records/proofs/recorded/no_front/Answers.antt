use Rattle.sms_records.specs.Inner.WholeLaws.{no-front}
use Rattle.sms_records.proofs.recorded.no_front.Goals as goal

pub returns : goal.returns
returns g c = λ x y more again-x again-y e. no-front g.T.Recorded.form x y more again-x again-y e
