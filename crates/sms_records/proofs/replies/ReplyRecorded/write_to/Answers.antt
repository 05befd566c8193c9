use Rattle.std.proofs.Common.{refl}
use Rattle.sms_records.specs.Inner.FormLaws.{both_readable, on_ok}
use Rattle.sms_records.specs.Inner.VariantLaws.{as_written, bare_again, variant_again}
use Rattle.sms_records.specs.Replies.{reply_readers, reply_write}
use Rattle.sms_records.proofs.replies.ReplyRecorded.write_to.Goals as goal

pub returns-in-Granted-clause-written : goal.returns-in-Granted-clause-written
returns-in-Granted-clause-written c =
    on_ok c.write_variant_of_two.result (λ h. as_written reply_write _ _ _ _ c.in-Granted.is h)
    c.write_variant_of_two.ensures.written

pub returns-in-Granted-clause-readable : goal.returns-in-Granted-clause-readable
returns-in-Granted-clause-readable c =
    on_ok c.write_variant_of_two.result
    (λ h. variant_again reply_write reply_readers 0 _ _ (c.in-Granted.set, c.in-Granted.trace)
    _ refl refl c.in-Granted.is (both_readable _ _ c.in-Granted.set c.in-Granted.trace h.0 h.1))
    c.write_variant_of_two.ensures.readable

pub returns-in-NotManaged-clause-written : goal.returns-in-NotManaged-clause-written
returns-in-NotManaged-clause-written c =
    on_ok c.write_variant.result (λ h. as_written reply_write _ _ _ _ c.in-NotManaged.is h)
    c.write_variant.ensures.written

pub returns-in-NotManaged-clause-readable : goal.returns-in-NotManaged-clause-readable
returns-in-NotManaged-clause-readable c =
    on_ok c.write_variant.result
    (λ h. variant_again reply_write reply_readers 1 _ _ c.in-NotManaged.trace _ refl refl c.in-NotManaged.is h)
    c.write_variant.ensures.readable

pub returns-in-Extended-clause-written : goal.returns-in-Extended-clause-written
returns-in-Extended-clause-written c =
    on_ok c.write_variant-in-Extended.result (λ h. as_written reply_write _ _ _ _ c.in-Extended.is h)
    c.write_variant-in-Extended.ensures.written

pub returns-in-Extended-clause-readable : goal.returns-in-Extended-clause-readable
returns-in-Extended-clause-readable c =
    on_ok c.write_variant-in-Extended.result
    (λ h. variant_again reply_write reply_readers 2 _ _ c.in-Extended.added _ refl refl c.in-Extended.is h)
    c.write_variant-in-Extended.ensures.readable

pub returns-in-Deleted-clause-written : goal.returns-in-Deleted-clause-written
returns-in-Deleted-clause-written c =
    on_ok c.write_variant-in-Deleted.result (λ h. as_written reply_write _ _ _ _ c.in-Deleted.is h)
    c.write_variant-in-Deleted.ensures.written

pub returns-in-Deleted-clause-readable : goal.returns-in-Deleted-clause-readable
returns-in-Deleted-clause-readable c =
    on_ok c.write_variant-in-Deleted.result
    (λ h. variant_again reply_write reply_readers 3 _ _ c.in-Deleted.tracks _ refl refl c.in-Deleted.is h)
    c.write_variant-in-Deleted.ensures.readable

pub returns-in-Activated-clause-written : goal.returns-in-Activated-clause-written
returns-in-Activated-clause-written c =
    on_ok c.write_variant-in-Activated.result (λ h. as_written reply_write _ _ _ _ c.in-Activated.is h)
    c.write_variant-in-Activated.ensures.written

pub returns-in-Activated-clause-readable : goal.returns-in-Activated-clause-readable
returns-in-Activated-clause-readable c =
    on_ok c.write_variant-in-Activated.result
    (λ h. variant_again reply_write reply_readers 4 _ _ c.in-Activated.count _ refl refl c.in-Activated.is h)
    c.write_variant-in-Activated.ensures.readable

pub returns-in-Varied-clause-written : goal.returns-in-Varied-clause-written
returns-in-Varied-clause-written c =
    on_ok c.write_variant-in-Varied.result (λ h. as_written reply_write _ _ _ _ c.in-Varied.is h)
    c.write_variant-in-Varied.ensures.written

pub returns-in-Varied-clause-readable : goal.returns-in-Varied-clause-readable
returns-in-Varied-clause-readable c =
    on_ok c.write_variant-in-Varied.result
    (λ h. variant_again reply_write reply_readers 5 _ _ (c.in-Varied.target, c.in-Varied.status)
    _ refl refl c.in-Varied.is h)
    c.write_variant-in-Varied.ensures.readable

pub returns-in-Shown-clause-written : goal.returns-in-Shown-clause-written
returns-in-Shown-clause-written c =
    on_ok c.write_variant-in-Shown.result (λ h. as_written reply_write _ _ _ _ c.in-Shown.is h)
    c.write_variant-in-Shown.ensures.written

pub returns-in-Shown-clause-readable : goal.returns-in-Shown-clause-readable
returns-in-Shown-clause-readable c =
    on_ok c.write_variant-in-Shown.result
    (λ h. variant_again reply_write reply_readers 6 _ _ c.in-Shown.view _ refl refl c.in-Shown.is h)
    c.write_variant-in-Shown.ensures.readable

pub returns-in-Purged-clause-written : goal.returns-in-Purged-clause-written
returns-in-Purged-clause-written c =
    on_ok c.write_variant-in-Purged.result (λ h. as_written reply_write _ _ _ _ c.in-Purged.is h)
    c.write_variant-in-Purged.ensures.written

pub returns-in-Purged-clause-readable : goal.returns-in-Purged-clause-readable
returns-in-Purged-clause-readable c =
    on_ok c.write_variant-in-Purged.result
    (λ h. variant_again reply_write reply_readers 7 _ _ (c.in-Purged.job, c.in-Purged.floor)
    _ refl refl c.in-Purged.is h)
    c.write_variant-in-Purged.ensures.readable

pub returns-in-Noted-clause-written : goal.returns-in-Noted-clause-written
returns-in-Noted-clause-written c =
    on_ok c.write_byte.result (λ h. as_written reply_write _ _ _ _ c.in-Noted.is h) c.write_byte.ensures

pub returns-in-Noted-clause-readable : goal.returns-in-Noted-clause-readable
returns-in-Noted-clause-readable c =
    on_ok c.write_byte.result
    (λ h. bare_again reply_write reply_readers 8 _ _ refl refl c.in-Noted.is)
    c.write_byte.ensures

pub returns-in-Released-clause-written : goal.returns-in-Released-clause-written
returns-in-Released-clause-written c =
    on_ok c.write_variant-in-Released.result (λ h. as_written reply_write _ _ _ _ c.in-Released.is h)
    c.write_variant-in-Released.ensures.written

pub returns-in-Released-clause-readable : goal.returns-in-Released-clause-readable
returns-in-Released-clause-readable c =
    on_ok c.write_variant-in-Released.result
    (λ h. variant_again reply_write reply_readers 9 _ _ c.in-Released.tracks _ refl refl c.in-Released.is h)
    c.write_variant-in-Released.ensures.readable

pub returns-in-Reused-clause-written : goal.returns-in-Reused-clause-written
returns-in-Reused-clause-written c =
    on_ok c.write_variant-in-Reused.result (λ h. as_written reply_write _ _ _ _ c.in-Reused.is h)
    c.write_variant-in-Reused.ensures.written

pub returns-in-Reused-clause-readable : goal.returns-in-Reused-clause-readable
returns-in-Reused-clause-readable c =
    on_ok c.write_variant-in-Reused.result
    (λ h. variant_again reply_write reply_readers 10 _ _ c.in-Reused.first _ refl refl c.in-Reused.is h)
    c.write_variant-in-Reused.ensures.readable

pub returns-in-Below-clause-written : goal.returns-in-Below-clause-written
returns-in-Below-clause-written c =
    on_ok c.write_variant-in-Below.result (λ h. as_written reply_write _ _ _ _ c.in-Below.is h)
    c.write_variant-in-Below.ensures.written

pub returns-in-Below-clause-readable : goal.returns-in-Below-clause-readable
returns-in-Below-clause-readable c =
    on_ok c.write_variant-in-Below.result
    (λ h. variant_again reply_write reply_readers 11 _ _ c.in-Below.floor _ refl refl c.in-Below.is h)
    c.write_variant-in-Below.ensures.readable

pub returns-in-NoConfig-clause-written : goal.returns-in-NoConfig-clause-written
returns-in-NoConfig-clause-written c =
    on_ok c.write_byte-in-NoConfig.result (λ h. as_written reply_write _ _ _ _ c.in-NoConfig.is h)
    c.write_byte-in-NoConfig.ensures

pub returns-in-NoConfig-clause-readable : goal.returns-in-NoConfig-clause-readable
returns-in-NoConfig-clause-readable c =
    on_ok c.write_byte-in-NoConfig.result
    (λ h. bare_again reply_write reply_readers 12 _ _ refl refl c.in-NoConfig.is)
    c.write_byte-in-NoConfig.ensures

pub returns-in-NameInUse-clause-written : goal.returns-in-NameInUse-clause-written
returns-in-NameInUse-clause-written c =
    on_ok c.write_byte-in-NameInUse.result (λ h. as_written reply_write _ _ _ _ c.in-NameInUse.is h)
    c.write_byte-in-NameInUse.ensures

pub returns-in-NameInUse-clause-readable : goal.returns-in-NameInUse-clause-readable
returns-in-NameInUse-clause-readable c =
    on_ok c.write_byte-in-NameInUse.result
    (λ h. bare_again reply_write reply_readers 13 _ _ refl refl c.in-NameInUse.is)
    c.write_byte-in-NameInUse.ensures

pub returns-in-Exit-clause-written : goal.returns-in-Exit-clause-written
returns-in-Exit-clause-written c =
    on_ok c.write_variant_of_two-in-Exit.result (λ h. as_written reply_write _ _ _ _ c.in-Exit.is h)
    c.write_variant_of_two-in-Exit.ensures.written

pub returns-in-Exit-clause-readable : goal.returns-in-Exit-clause-readable
returns-in-Exit-clause-readable c =
    on_ok c.write_variant_of_two-in-Exit.result
    (λ h. variant_again reply_write reply_readers 14 _ _ ((c.in-Exit.kind, c.in-Exit.code), c.in-Exit.trace)
    _ refl refl c.in-Exit.is (both_readable _ _ (c.in-Exit.kind, c.in-Exit.code) c.in-Exit.trace h.0 h.1))
    c.write_variant_of_two-in-Exit.ensures.readable

pub returns-in-UnknownClass-clause-written : goal.returns-in-UnknownClass-clause-written
returns-in-UnknownClass-clause-written c =
    on_ok c.write_variant_of_two-in-UnknownClass.result (λ h. as_written reply_write _ _ _ _ c.in-UnknownClass.is h)
    c.write_variant_of_two-in-UnknownClass.ensures.written

pub returns-in-UnknownClass-clause-readable : goal.returns-in-UnknownClass-clause-readable
returns-in-UnknownClass-clause-readable c =
    on_ok c.write_variant_of_two-in-UnknownClass.result
    (λ h. variant_again reply_write reply_readers 15 _ _ ((c.in-UnknownClass.kind, c.in-UnknownClass.name), c.in-UnknownClass.trace)
    _ refl refl c.in-UnknownClass.is (both_readable _ _ (c.in-UnknownClass.kind, c.in-UnknownClass.name) c.in-UnknownClass.trace h.0 h.1))
    c.write_variant_of_two-in-UnknownClass.ensures.readable

pub returns-in-NoQuantity-clause-written : goal.returns-in-NoQuantity-clause-written
returns-in-NoQuantity-clause-written c =
    on_ok c.write_variant-in-NoQuantity.result (λ h. as_written reply_write _ _ _ _ c.in-NoQuantity.is h)
    c.write_variant-in-NoQuantity.ensures.written

pub returns-in-NoQuantity-clause-readable : goal.returns-in-NoQuantity-clause-readable
returns-in-NoQuantity-clause-readable c =
    on_ok c.write_variant-in-NoQuantity.result
    (λ h. variant_again reply_write reply_readers 16 _ _ c.in-NoQuantity.trace _ refl refl c.in-NoQuantity.is h)
    c.write_variant-in-NoQuantity.ensures.readable

pub returns-in-NoGroup-clause-written : goal.returns-in-NoGroup-clause-written
returns-in-NoGroup-clause-written c =
    on_ok c.write_variant-in-NoGroup.result (λ h. as_written reply_write _ _ _ _ c.in-NoGroup.is h)
    c.write_variant-in-NoGroup.ensures.written

pub returns-in-NoGroup-clause-readable : goal.returns-in-NoGroup-clause-readable
returns-in-NoGroup-clause-readable c =
    on_ok c.write_variant-in-NoGroup.result
    (λ h. variant_again reply_write reply_readers 17 _ _ c.in-NoGroup.trace _ refl refl c.in-NoGroup.is h)
    c.write_variant-in-NoGroup.ensures.readable

pub returns-in-NoVolume-clause-written : goal.returns-in-NoVolume-clause-written
returns-in-NoVolume-clause-written c =
    on_ok c.write_variant-in-NoVolume.result (λ h. as_written reply_write _ _ _ _ c.in-NoVolume.is h)
    c.write_variant-in-NoVolume.ensures.written

pub returns-in-NoVolume-clause-readable : goal.returns-in-NoVolume-clause-readable
returns-in-NoVolume-clause-readable c =
    on_ok c.write_variant-in-NoVolume.result
    (λ h. variant_again reply_write reply_readers 18 _ _ c.in-NoVolume.trace _ refl refl c.in-NoVolume.is h)
    c.write_variant-in-NoVolume.ensures.readable

pub returns-in-NotFound-clause-written : goal.returns-in-NotFound-clause-written
returns-in-NotFound-clause-written c =
    on_ok c.write_byte-in-NotFound.result (λ h. as_written reply_write _ _ _ _ c.in-NotFound.is h)
    c.write_byte-in-NotFound.ensures

pub returns-in-NotFound-clause-readable : goal.returns-in-NotFound-clause-readable
returns-in-NotFound-clause-readable c =
    on_ok c.write_byte-in-NotFound.result
    (λ h. bare_again reply_write reply_readers 19 _ _ refl refl c.in-NotFound.is)
    c.write_byte-in-NotFound.ensures

pub returns-in-NoExtend-clause-written : goal.returns-in-NoExtend-clause-written
returns-in-NoExtend-clause-written c =
    on_ok c.write_variant-in-NoExtend.result (λ h. as_written reply_write _ _ _ _ c.in-NoExtend.is h)
    c.write_variant-in-NoExtend.ensures.written

pub returns-in-NoExtend-clause-readable : goal.returns-in-NoExtend-clause-readable
returns-in-NoExtend-clause-readable c =
    on_ok c.write_variant-in-NoExtend.result
    (λ h. variant_again reply_write reply_readers 20 _ _ c.in-NoExtend.why _ refl refl c.in-NoExtend.is h)
    c.write_variant-in-NoExtend.ensures.readable

pub returns-in-Deck-clause-written : goal.returns-in-Deck-clause-written
returns-in-Deck-clause-written c =
    on_ok c.write_variant-in-Deck.result (λ h. as_written reply_write _ _ _ _ c.in-Deck.is h)
    c.write_variant-in-Deck.ensures.written

pub returns-in-Deck-clause-readable : goal.returns-in-Deck-clause-readable
returns-in-Deck-clause-readable c =
    on_ok c.write_variant-in-Deck.result
    (λ h. variant_again reply_write reply_readers 21 _ _ c.in-Deck.fault _ refl refl c.in-Deck.is h)
    c.write_variant-in-Deck.ensures.readable

pub returns-in-VolumeInUse-clause-written : goal.returns-in-VolumeInUse-clause-written
returns-in-VolumeInUse-clause-written c =
    on_ok c.write_variant-in-VolumeInUse.result (λ h. as_written reply_write _ _ _ _ c.in-VolumeInUse.is h)
    c.write_variant-in-VolumeInUse.ensures.written

pub returns-in-VolumeInUse-clause-readable : goal.returns-in-VolumeInUse-clause-readable
returns-in-VolumeInUse-clause-readable c =
    on_ok c.write_variant-in-VolumeInUse.result
    (λ h. variant_again reply_write reply_readers 22 _ _ c.in-VolumeInUse.volser _ refl refl c.in-VolumeInUse.is h)
    c.write_variant-in-VolumeInUse.ensures.readable

pub returns-in-UnknownName-clause-written : goal.returns-in-UnknownName-clause-written
returns-in-UnknownName-clause-written c =
    on_ok c.write_byte-in-UnknownName.result (λ h. as_written reply_write _ _ _ _ c.in-UnknownName.is h)
    c.write_byte-in-UnknownName.ensures

pub returns-in-UnknownName-clause-readable : goal.returns-in-UnknownName-clause-readable
returns-in-UnknownName-clause-readable c =
    on_ok c.write_byte-in-UnknownName.result
    (λ h. bare_again reply_write reply_readers 23 _ _ refl refl c.in-UnknownName.is)
    c.write_byte-in-UnknownName.ensures

pub returns-in-JournalFull-clause-written : goal.returns-in-JournalFull-clause-written
returns-in-JournalFull-clause-written c =
    on_ok c.write_byte-in-JournalFull.result (λ h. as_written reply_write _ _ _ _ c.in-JournalFull.is h)
    c.write_byte-in-JournalFull.ensures

pub returns-in-JournalFull-clause-readable : goal.returns-in-JournalFull-clause-readable
returns-in-JournalFull-clause-readable c =
    on_ok c.write_byte-in-JournalFull.result
    (λ h. bare_again reply_write reply_readers 24 _ _ refl refl c.in-JournalFull.is)
    c.write_byte-in-JournalFull.ensures

pub returns-in-PastGrant-clause-written : goal.returns-in-PastGrant-clause-written
returns-in-PastGrant-clause-written c =
    on_ok c.write_variant-in-PastGrant.result (λ h. as_written reply_write _ _ _ _ c.in-PastGrant.is h)
    c.write_variant-in-PastGrant.ensures.written

pub returns-in-PastGrant-clause-readable : goal.returns-in-PastGrant-clause-readable
returns-in-PastGrant-clause-readable c =
    on_ok c.write_variant-in-PastGrant.result
    (λ h. variant_again reply_write reply_readers 25 _ _ c.in-PastGrant.granted _ refl refl c.in-PastGrant.is h)
    c.write_variant-in-PastGrant.ensures.readable

pub returns-in-KeeperFault-clause-written : goal.returns-in-KeeperFault-clause-written
returns-in-KeeperFault-clause-written c =
    on_ok c.write_byte-in-KeeperFault.result (λ h. as_written reply_write _ _ _ _ c.in-KeeperFault.is h)
    c.write_byte-in-KeeperFault.ensures

pub returns-in-KeeperFault-clause-readable : goal.returns-in-KeeperFault-clause-readable
returns-in-KeeperFault-clause-readable c =
    on_ok c.write_byte-in-KeeperFault.result
    (λ h. bare_again reply_write reply_readers 26 _ _ refl refl c.in-KeeperFault.is)
    c.write_byte-in-KeeperFault.ensures

pub returns-in-Memory-clause-written : goal.returns-in-Memory-clause-written
returns-in-Memory-clause-written c =
    on_ok c.write_byte-in-Memory.result (λ h. as_written reply_write _ _ _ _ c.in-Memory.is h)
    c.write_byte-in-Memory.ensures

pub returns-in-Memory-clause-readable : goal.returns-in-Memory-clause-readable
returns-in-Memory-clause-readable c =
    on_ok c.write_byte-in-Memory.result
    (λ h. bare_again reply_write reply_readers 27 _ _ refl refl c.in-Memory.is)
    c.write_byte-in-Memory.ensures
