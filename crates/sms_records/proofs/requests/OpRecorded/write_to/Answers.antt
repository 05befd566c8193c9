use Rattle.std.proofs.Common.{refl}
use Rattle.sms_records.specs.Inner.FormLaws.{on_ok}
use Rattle.sms_records.specs.Inner.VariantLaws.{as_written, variant_again}
use Rattle.sms_records.specs.Requests.{op_readers, op_write}
use Rattle.sms_records.proofs.requests.OpRecorded.write_to.Goals as goal

pub returns-in-Alloc-clause-written : goal.returns-in-Alloc-clause-written
returns-in-Alloc-clause-written c =
    on_ok c.write_variant.result (λ h. as_written op_write _ _ _ _ c.in-Alloc.is h) c.write_variant.ensures.written

pub returns-in-Alloc-clause-readable : goal.returns-in-Alloc-clause-readable
returns-in-Alloc-clause-readable c =
    on_ok c.write_variant.result
    (λ h. variant_again op_write op_readers 0 _ _ c.in-Alloc.allocation _ refl refl c.in-Alloc.is h)
    c.write_variant.ensures.readable

pub returns-in-Extend-clause-written : goal.returns-in-Extend-clause-written
returns-in-Extend-clause-written c =
    on_ok c.write_variant-in-Extend.result (λ h. as_written op_write _ _ _ _ c.in-Extend.is h)
    c.write_variant-in-Extend.ensures.written

pub returns-in-Extend-clause-readable : goal.returns-in-Extend-clause-readable
returns-in-Extend-clause-readable c =
    on_ok c.write_variant-in-Extend.result
    (λ h. variant_again op_write op_readers 1 _ _ c.in-Extend.dsn _ refl refl c.in-Extend.is h)
    c.write_variant-in-Extend.ensures.readable

pub returns-in-Delete-clause-written : goal.returns-in-Delete-clause-written
returns-in-Delete-clause-written c =
    on_ok c.write_variant-in-Delete.result (λ h. as_written op_write _ _ _ _ c.in-Delete.is h)
    c.write_variant-in-Delete.ensures.written

pub returns-in-Delete-clause-readable : goal.returns-in-Delete-clause-readable
returns-in-Delete-clause-readable c =
    on_ok c.write_variant-in-Delete.result
    (λ h. variant_again op_write op_readers 2 _ _ c.in-Delete.dsn _ refl refl c.in-Delete.is h)
    c.write_variant-in-Delete.ensures.readable

pub returns-in-Used-clause-written : goal.returns-in-Used-clause-written
returns-in-Used-clause-written c =
    on_ok c.write_variant-in-Used.result (λ h. as_written op_write _ _ _ _ c.in-Used.is h)
    c.write_variant-in-Used.ensures.written

pub returns-in-Used-clause-readable : goal.returns-in-Used-clause-readable
returns-in-Used-clause-readable c =
    on_ok c.write_variant-in-Used.result
    (λ h. variant_again op_write op_readers 3 _ _ (c.in-Used.dsn, c.in-Used.tracks) _ refl refl c.in-Used.is h)
    c.write_variant-in-Used.ensures.readable

pub returns-in-Release-clause-written : goal.returns-in-Release-clause-written
returns-in-Release-clause-written c =
    on_ok c.write_variant-in-Release.result (λ h. as_written op_write _ _ _ _ c.in-Release.is h)
    c.write_variant-in-Release.ensures.written

pub returns-in-Release-clause-readable : goal.returns-in-Release-clause-readable
returns-in-Release-clause-readable c =
    on_ok c.write_variant-in-Release.result
    (λ h. variant_again op_write op_readers 4 _ _ c.in-Release.dsn _ refl refl c.in-Release.is h)
    c.write_variant-in-Release.ensures.readable

pub returns-in-Display-clause-written : goal.returns-in-Display-clause-written
returns-in-Display-clause-written c =
    on_ok c.write_variant-in-Display.result (λ h. as_written op_write _ _ _ _ c.in-Display.is h)
    c.write_variant-in-Display.ensures.written

pub returns-in-Display-clause-readable : goal.returns-in-Display-clause-readable
returns-in-Display-clause-readable c =
    on_ok c.write_variant-in-Display.result
    (λ h. variant_again op_write op_readers 5 _ _ c.in-Display.target _ refl refl c.in-Display.is h)
    c.write_variant-in-Display.ensures.readable

pub returns-in-Activate-clause-written : goal.returns-in-Activate-clause-written
returns-in-Activate-clause-written c =
    on_ok c.write_deck_variant.result (λ h. as_written op_write _ _ _ _ c.in-Activate.is h)
    c.write_deck_variant.ensures.written

pub returns-in-Activate-clause-readable : goal.returns-in-Activate-clause-readable
returns-in-Activate-clause-readable c =
    on_ok c.write_deck_variant.result
    (λ h. variant_again op_write op_readers 6 _ _ c.in-Activate.deck _ refl refl c.in-Activate.is h)
    c.write_deck_variant.ensures.readable

pub returns-in-Vary-clause-written : goal.returns-in-Vary-clause-written
returns-in-Vary-clause-written c =
    on_ok c.write_variant-in-Vary.result (λ h. as_written op_write _ _ _ _ c.in-Vary.is h)
    c.write_variant-in-Vary.ensures.written

pub returns-in-Vary-clause-readable : goal.returns-in-Vary-clause-readable
returns-in-Vary-clause-readable c =
    on_ok c.write_variant-in-Vary.result
    (λ h. variant_again op_write op_readers 7 _ _ (c.in-Vary.target, c.in-Vary.action) _ refl refl c.in-Vary.is h)
    c.write_variant-in-Vary.ensures.readable

pub returns-in-Purge-clause-written : goal.returns-in-Purge-clause-written
returns-in-Purge-clause-written c =
    on_ok c.write_variant-in-Purge.result (λ h. as_written op_write _ _ _ _ c.in-Purge.is h)
    c.write_variant-in-Purge.ensures.written

pub returns-in-Purge-clause-readable : goal.returns-in-Purge-clause-readable
returns-in-Purge-clause-readable c =
    on_ok c.write_variant-in-Purge.result
    (λ h. variant_again op_write op_readers 8 _ _ (c.in-Purge.job, c.in-Purge.floor) _ refl refl c.in-Purge.is h)
    c.write_variant-in-Purge.ensures.readable
