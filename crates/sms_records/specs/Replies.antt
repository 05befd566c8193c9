-- The record form of replies (docs/manual/records.md, "The record form").
use Rattle.std.specs.Prelude.{◌++◌, ◌∷◌, [], ℕ, List, Option}
use Rattle.sms_construct.specs.declared.reply.Reply.TheVariants as replies
use Rattle.sms_construct.specs.declared.reply.Reply.{Reply}
use Rattle.sms_records.specs.Form.{◌&◌, Form, made_at, list, variants, bare_at, number_form, number_32_form}
use Rattle.sms_records.specs.Form.{number_16_form}
use Rattle.sms_records.specs.Enums.{kind_form, status_form, why_no_extend_form}
use Rattle.sms_records.specs.Texts.{name_form, short_form, volser_form}
use Rattle.sms_records.specs.Sets.{data_set_form, extent_form}
use Rattle.sms_records.specs.Traces.{trace_form}
use Rattle.sms_records.specs.Views.{target_form, view_form}
use Rattle.sms_records.specs.Faults.{fault_form}

-- a reply, A00 to M31
abbrev pub reply_write : Reply → List ℕ
reply_write (replies.Granted set trace) = 0 ∷ (data_set_form.write set ++ trace_form.write trace)
reply_write (replies.NotManaged trace) = 1 ∷ trace_form.write trace
reply_write (replies.Extended added) = 2 ∷ (list extent_form).write added
reply_write (replies.Deleted tracks) = 3 ∷ number_form.write tracks
reply_write (replies.Activated count) = 4 ∷ number_form.write count
reply_write (replies.Varied target status) = 5 ∷ (target_form.write target ++ status_form.write status)
reply_write (replies.Shown view) = 6 ∷ view_form.write view
reply_write (replies.Purged job floor) = 7 ∷ (name_form.write job ++ number_32_form.write floor)
reply_write replies.Noted = 8 ∷ []
reply_write (replies.Released tracks) = 9 ∷ number_form.write tracks
reply_write (replies.Reused first) = 10 ∷ number_form.write first
reply_write (replies.Below floor) = 11 ∷ number_32_form.write floor
reply_write replies.NoConfig = 12 ∷ []
reply_write replies.NameInUse = 13 ∷ []
reply_write (replies.Exit kind code trace) =
    14 ∷ ((kind_form & number_16_form) & trace_form).write ((kind, code), trace)
reply_write (replies.UnknownClass kind name trace) =
    15 ∷ ((kind_form & short_form) & trace_form).write ((kind, name), trace)
reply_write (replies.NoQuantity trace) = 16 ∷ trace_form.write trace
reply_write (replies.NoGroup trace) = 17 ∷ trace_form.write trace
reply_write (replies.NoVolume trace) = 18 ∷ trace_form.write trace
reply_write replies.NotFound = 19 ∷ []
reply_write (replies.NoExtend why) = 20 ∷ why_no_extend_form.write why
reply_write (replies.Deck fault) = 21 ∷ fault_form.write fault
reply_write (replies.VolumeInUse volser) = 22 ∷ volser_form.write volser
reply_write replies.UnknownName = 23 ∷ []
reply_write replies.JournalFull = 24 ∷ []
reply_write (replies.PastGrant granted) = 25 ∷ number_form.write granted
reply_write replies.KeeperFault = 26 ∷ []
reply_write replies.Memory = 27 ∷ []

-- the readers of its variants
abbrev pub reply_readers : List (List ℕ → Option (Reply × List ℕ))
reply_readers =
    made_at (data_set_form & trace_form) (λ x. replies.Granted x.0 x.1) ∷
    made_at trace_form replies.NotManaged ∷
    made_at (list extent_form) replies.Extended ∷
    made_at number_form replies.Deleted ∷
    made_at number_form replies.Activated ∷
    made_at (target_form & status_form) (λ x. replies.Varied x.0 x.1) ∷
    made_at view_form replies.Shown ∷
    made_at (name_form & number_32_form) (λ x. replies.Purged x.0 x.1) ∷
    bare_at replies.Noted ∷
    made_at number_form replies.Released ∷
    made_at number_form replies.Reused ∷
    made_at number_32_form replies.Below ∷
    bare_at replies.NoConfig ∷
    bare_at replies.NameInUse ∷
    made_at ((kind_form & number_16_form) & trace_form) (λ x. replies.Exit x.0.0 x.0.1 x.1) ∷
    made_at ((kind_form & short_form) & trace_form) (λ x. replies.UnknownClass x.0.0 x.0.1 x.1) ∷
    made_at trace_form replies.NoQuantity ∷
    made_at trace_form replies.NoGroup ∷
    made_at trace_form replies.NoVolume ∷
    bare_at replies.NotFound ∷
    made_at why_no_extend_form replies.NoExtend ∷
    made_at fault_form replies.Deck ∷
    made_at volser_form replies.VolumeInUse ∷
    bare_at replies.UnknownName ∷
    bare_at replies.JournalFull ∷
    made_at number_form replies.PastGrant ∷
    bare_at replies.KeeperFault ∷
    bare_at replies.Memory ∷ []

-- the form of replies
abbrev pub reply_form : Form Reply
reply_form = variants reply_write reply_readers
