use Rattle.sms_records.specs.Inner.GivenLaws.{read_in_parts}
use Rattle.sms_records.proofs.inputs.GivenRecorded.read_from.Goals as goal

pub returns : goal.returns
returns c = rw (read_in_parts c.args.bytes.now) c.read_parts.ensures
