use Rattle.std.proofs.Common.{refl}
use Rattle.sms_records.specs.Inner.FormLaws.{on_ok}
use Rattle.sms_records.specs.Inner.VariantLaws.{as_written, bare_again, variant_again}
use Rattle.sms_records.specs.Faults.{fault_readers, fault_write}
use Rattle.sms_records.proofs.faults.FaultRecorded.write_to.Goals as goal

pub returns-in-NotBuilt-clause-written : goal.returns-in-NotBuilt-clause-written
returns-in-NotBuilt-clause-written c =
    on_ok c.write_variant.result (λ h. as_written fault_write _ _ _ _ c.in-NotBuilt.is h)
    c.write_variant.ensures.written

pub returns-in-NotBuilt-clause-readable : goal.returns-in-NotBuilt-clause-readable
returns-in-NotBuilt-clause-readable c =
    on_ok c.write_variant.result
    (λ h. variant_again fault_write fault_readers 0 _ _ c.in-NotBuilt.path _ refl refl c.in-NotBuilt.is h)
    c.write_variant.ensures.readable

pub returns-in-NotToml-clause-written : goal.returns-in-NotToml-clause-written
returns-in-NotToml-clause-written c =
    on_ok c.write_byte.result (λ h. as_written fault_write _ _ _ _ c.in-NotToml.is h) c.write_byte.ensures

pub returns-in-NotToml-clause-readable : goal.returns-in-NotToml-clause-readable
returns-in-NotToml-clause-readable c =
    on_ok c.write_byte.result
    (λ h. bare_again fault_write fault_readers 1 _ _ refl refl c.in-NotToml.is)
    c.write_byte.ensures

pub returns-in-UnknownKey-clause-written : goal.returns-in-UnknownKey-clause-written
returns-in-UnknownKey-clause-written c =
    on_ok c.write_variant-in-UnknownKey.result (λ h. as_written fault_write _ _ _ _ c.in-UnknownKey.is h)
    c.write_variant-in-UnknownKey.ensures.written

pub returns-in-UnknownKey-clause-readable : goal.returns-in-UnknownKey-clause-readable
returns-in-UnknownKey-clause-readable c =
    on_ok c.write_variant-in-UnknownKey.result
    (λ h. variant_again fault_write fault_readers 2 _ _ c.in-UnknownKey.path _ refl refl c.in-UnknownKey.is h)
    c.write_variant-in-UnknownKey.ensures.readable

pub returns-in-Missing-clause-written : goal.returns-in-Missing-clause-written
returns-in-Missing-clause-written c =
    on_ok c.write_variant-in-Missing.result (λ h. as_written fault_write _ _ _ _ c.in-Missing.is h)
    c.write_variant-in-Missing.ensures.written

pub returns-in-Missing-clause-readable : goal.returns-in-Missing-clause-readable
returns-in-Missing-clause-readable c =
    on_ok c.write_variant-in-Missing.result
    (λ h. variant_again fault_write fault_readers 3 _ _ c.in-Missing.path _ refl refl c.in-Missing.is h)
    c.write_variant-in-Missing.ensures.readable

pub returns-in-BadValue-clause-written : goal.returns-in-BadValue-clause-written
returns-in-BadValue-clause-written c =
    on_ok c.write_variant-in-BadValue.result (λ h. as_written fault_write _ _ _ _ c.in-BadValue.is h)
    c.write_variant-in-BadValue.ensures.written

pub returns-in-BadValue-clause-readable : goal.returns-in-BadValue-clause-readable
returns-in-BadValue-clause-readable c =
    on_ok c.write_variant-in-BadValue.result
    (λ h. variant_again fault_write fault_readers 4 _ _ c.in-BadValue.path _ refl refl c.in-BadValue.is h)
    c.write_variant-in-BadValue.ensures.readable

pub returns-in-BadName-clause-written : goal.returns-in-BadName-clause-written
returns-in-BadName-clause-written c =
    on_ok c.write_variant-in-BadName.result (λ h. as_written fault_write _ _ _ _ c.in-BadName.is h)
    c.write_variant-in-BadName.ensures.written

pub returns-in-BadName-clause-readable : goal.returns-in-BadName-clause-readable
returns-in-BadName-clause-readable c =
    on_ok c.write_variant-in-BadName.result
    (λ h. variant_again fault_write fault_readers 5 _ _ c.in-BadName.path _ refl refl c.in-BadName.is h)
    c.write_variant-in-BadName.ensures.readable

pub returns-in-TwoGroups-clause-written : goal.returns-in-TwoGroups-clause-written
returns-in-TwoGroups-clause-written c =
    on_ok c.write_variant-in-TwoGroups.result (λ h. as_written fault_write _ _ _ _ c.in-TwoGroups.is h)
    c.write_variant-in-TwoGroups.ensures.written

pub returns-in-TwoGroups-clause-readable : goal.returns-in-TwoGroups-clause-readable
returns-in-TwoGroups-clause-readable c =
    on_ok c.write_variant-in-TwoGroups.result
    (λ h. variant_again fault_write fault_readers 6 _ _ c.in-TwoGroups.volser _ refl refl c.in-TwoGroups.is h)
    c.write_variant-in-TwoGroups.ensures.readable

pub returns-in-Routine-clause-written : goal.returns-in-Routine-clause-written
returns-in-Routine-clause-written c =
    on_ok c.write_variant-in-Routine.result (λ h. as_written fault_write _ _ _ _ c.in-Routine.is h)
    c.write_variant-in-Routine.ensures.written

pub returns-in-Routine-clause-readable : goal.returns-in-Routine-clause-readable
returns-in-Routine-clause-readable c =
    on_ok c.write_variant-in-Routine.result
    (λ h. variant_again fault_write fault_readers 7 _ _ (c.in-Routine.kind, c.in-Routine.fault)
    _ refl refl c.in-Routine.is h)
    c.write_variant-in-Routine.ensures.readable

pub returns-in-Unassigned-clause-written : goal.returns-in-Unassigned-clause-written
returns-in-Unassigned-clause-written c =
    on_ok c.write_variant-in-Unassigned.result (λ h. as_written fault_write _ _ _ _ c.in-Unassigned.is h)
    c.write_variant-in-Unassigned.ensures.written

pub returns-in-Unassigned-clause-readable : goal.returns-in-Unassigned-clause-readable
returns-in-Unassigned-clause-readable c =
    on_ok c.write_variant-in-Unassigned.result
    (λ h. variant_again fault_write fault_readers 8 _ _ (c.in-Unassigned.kind, c.in-Unassigned.name)
    _ refl refl c.in-Unassigned.is h)
    c.write_variant-in-Unassigned.ensures.readable

pub returns-in-TooMany-clause-written : goal.returns-in-TooMany-clause-written
returns-in-TooMany-clause-written c =
    on_ok c.write_variant-in-TooMany.result (λ h. as_written fault_write _ _ _ _ c.in-TooMany.is h)
    c.write_variant-in-TooMany.ensures.written

pub returns-in-TooMany-clause-readable : goal.returns-in-TooMany-clause-readable
returns-in-TooMany-clause-readable c =
    on_ok c.write_variant-in-TooMany.result
    (λ h. variant_again fault_write fault_readers 9 _ _ c.in-TooMany.path _ refl refl c.in-TooMany.is h)
    c.write_variant-in-TooMany.ensures.readable
