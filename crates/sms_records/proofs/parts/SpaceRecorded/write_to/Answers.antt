use Rattle.sms_records.specs.Inner.FormLaws.{on_ok}
use Rattle.sms_records.specs.Inner.PartLaws.{space_readable}
use Rattle.sms_records.proofs.parts.SpaceRecorded.write_to.Goals as goal

pub returns-clause-readable : goal.returns-clause-readable
returns-clause-readable c = on_ok c.write_to.result (λ h. space_readable c.args.self.now c.primary.ensures.range h)
    (rw (c.unit.ensures, c.primary.ensures.value, c.secondary.ensures.value) at c.write_to.ensures.readable)
