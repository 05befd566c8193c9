use Rattle.std.proofs.Common.{refl}
use Rattle.sms_records.specs.Inner.FormLaws.{on_ok}
use Rattle.sms_records.specs.Inner.VariantLaws.{as_written, variant_again}
use Rattle.sms_records.specs.Views.{view_readers, view_write}
use Rattle.sms_records.proofs.views.ViewRecorded.write_to.Goals as goal

pub returns-in-Group-clause-written : goal.returns-in-Group-clause-written
returns-in-Group-clause-written c =
    on_ok c.write_variant.result (λ h. as_written view_write _ _ _ _ c.in-Group.is h)
    c.write_variant.ensures.written

pub returns-in-Group-clause-readable : goal.returns-in-Group-clause-readable
returns-in-Group-clause-readable c =
    on_ok c.write_variant.result
    (λ h. variant_again view_write view_readers 0 _ _ (c.in-Group.name, (c.in-Group.status, (c.in-Group.volumes, (c.in-Group.capacity, c.in-Group.free))))
    _ refl refl c.in-Group.is h)
    c.write_variant.ensures.readable

pub returns-in-Volume-clause-written : goal.returns-in-Volume-clause-written
returns-in-Volume-clause-written c =
    on_ok c.write_variant-in-Volume.result (λ h. as_written view_write _ _ _ _ c.in-Volume.is h)
    c.write_variant-in-Volume.ensures.written

pub returns-in-Volume-clause-readable : goal.returns-in-Volume-clause-readable
returns-in-Volume-clause-readable c =
    on_ok c.write_variant-in-Volume.result
    (λ h. variant_again view_write view_readers 1 _ _ c.in-Volume.row _ refl refl c.in-Volume.is h)
    c.write_variant-in-Volume.ensures.readable

pub returns-in-Set-clause-written : goal.returns-in-Set-clause-written
returns-in-Set-clause-written c =
    on_ok c.write_variant-in-Set.result (λ h. as_written view_write _ _ _ _ c.in-Set.is h)
    c.write_variant-in-Set.ensures.written

pub returns-in-Set-clause-readable : goal.returns-in-Set-clause-readable
returns-in-Set-clause-readable c =
    on_ok c.write_variant-in-Set.result
    (λ h. variant_again view_write view_readers 2 _ _ c.in-Set.set _ refl refl c.in-Set.is h)
    c.write_variant-in-Set.ensures.readable
