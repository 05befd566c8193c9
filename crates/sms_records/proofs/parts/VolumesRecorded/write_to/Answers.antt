use Rattle.std.proofs.Common.{arith, sym}
use Rattle.sms_records.specs.Form.{list}
use Rattle.sms_records.specs.Inner.FormLaws.{on_ok, seen_as}
use Rattle.sms_records.specs.Inner.PartLaws.{volumes_readable, volumes_written}
use Rattle.sms_records.specs.Texts.{volser_form}
use Rattle.sms_records.proofs.parts.VolumesRecorded.write_to.Goals as goal

pub returns-clause-written : goal.returns-clause-written
returns-clause-written c =
    on_ok c.write_list.result
    (λ h. volumes_written c.args.out.now.items c.write_number.new.out.items _ c.as_slice-volsers.result.now c.args.self.now c.as_slice-volsers.ensures.items c.in_ok-write_number.ensures.written h)
    c.write_list.ensures.written

pub returns-clause-readable : goal.returns-clause-readable
returns-clause-readable c =
    let few = c.as_slice-volsers.ensures.few in
    let same = sym c.as_slice-volsers.ensures.items in
    on_ok c.write_list.result
    (λ h. volumes_readable c.args.self.now few (omega (arith, few))
    (seen_as (list volser_form) c.args.self.now c.as_slice-volsers.result.now same h))
    c.write_list.ensures.readable
