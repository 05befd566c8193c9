-- The present status of a storage group or a volume, where it is another than that of the deck.
use Rattle.std.proofs.Common.{ℕ, false, List, [], ◌∷◌, refl}
use Rattle.std.specs.Prelude.{codes, Some}
use Rattle.sms_construct.specs.Configuration.{Configuration}
use Rattle.sms_construct.specs.declared.reply.Reply.TheVariants as replies
use Rattle.sms_construct.specs.declared.status.Status.{Status}
use Rattle.sms_construct.specs.declared.status.Status.TheVariants.{DisAll, DisNew, Enable, NotCon, QuiAll}
use Rattle.sms_construct.specs.declared.target.Target.{Target}
use Rattle.sms_construct.specs.declared.target.Target.TheVariants.{Group, Volume}
use Rattle.sms_construct.specs.declared.view.View.TheVariants as views
use Rattle.sms_construct.specs.declared.vol_row.VolRow.{VolRow}
use Rattle.sms_keeper.specs.declared.status_row.StatusRow.{StatusRow}
use Rattle.desk_law.specs.State.{DeskState, with_status}
use Rattle.desk_law.specs.Display.{DisplayRule}
use Rattle.desk_law.specs.Activation.{ConfigurationRule}
use Rattle.desk_law.proofs.ExampleDecks.{deck_with, desk_under, one, two, volume}

-- a target with this status
abbrev row : Target → Status → StatusRow
row target status = record { target = target; status = status }

-- the rows of the storage group SG1 and of two volumes
abbrev rows : Status → Status → Status → List StatusRow
rows status first second = row (Group (codes "SG1")) status ∷ row (Volume (codes "VOL001")) first ∷ row (Volume (codes "VOL002")) second ∷ []

-- two volumes are active, the storage group and the first enabled by the deck and the second quiesced; each has this
-- status now
abbrev varied : Status → Status → Status → DeskState
varied status first second = record { activations = 1; active = Some two; statuses = rows status first second; sets = [] }

-- an empty volume with this status
abbrev shown : List ℕ → Status → VolRow
shown volser status = record { volser = volser; group = codes "SG1"; status = status; capacity = 100; free = 100; extents = 0 }

-- DISPLAY

-- a storage group that the deck enables and that was quiesced since
group_is_quiesced : DisplayRule (varied QuiAll Enable QuiAll) (Group (codes "SG1")) (replies.Shown (views.Group (codes "SG1") QuiAll 2 200 200)) (varied QuiAll Enable QuiAll)
group_is_quiesced = record { reply_is = refl; after_is = refl }

-- its volumes are shown with their own status
volume_of_quiesced : DisplayRule (varied QuiAll Enable QuiAll) (Volume (codes "VOL001")) (replies.Shown (views.Volume (shown (codes "VOL001") Enable))) (varied QuiAll Enable QuiAll)
volume_of_quiesced = record { reply_is = refl; after_is = refl }

-- a volume that the deck enables and that was disabled since
volume_is_disabled : DisplayRule (varied Enable DisAll QuiAll) (Volume (codes "VOL001")) (replies.Shown (views.Volume (shown (codes "VOL001") DisAll))) (varied Enable DisAll QuiAll)
volume_is_disabled = record { reply_is = refl; after_is = refl }

-- a volume that the deck quiesces and that was enabled since
volume_is_enabled : DisplayRule (varied Enable Enable Enable) (Volume (codes "VOL002")) (replies.Shown (views.Volume (shown (codes "VOL002") Enable))) (varied Enable Enable Enable)
volume_is_enabled = record { reply_is = refl; after_is = refl }

-- the storage group of a disabled volume is shown with its own status, and counts that volume and its tracks
group_of_disabled : DisplayRule (varied Enable DisAll QuiAll) (Group (codes "SG1")) (replies.Shown (views.Group (codes "SG1") Enable 2 200 200)) (varied Enable DisAll QuiAll)
group_of_disabled = record { reply_is = refl; after_is = refl }

-- a volume is shown as VARY leaves it
display_after_vary : DisplayRule (with_status (desk_under two) (Volume (codes "VOL001")) DisNew) (Volume (codes "VOL001")) (replies.Shown (views.Volume (shown (codes "VOL001") DisNew))) (with_status (desk_under two) (Volume (codes "VOL001")) DisNew)
display_after_vary = record { reply_is = refl; after_is = refl }

-- ACTIVATE

-- the desk of one volume where the storage group has this status now
abbrev before : Status → DeskState
before status = with_status (desk_under (one 100)) (Group (codes "SG1")) status

-- the desk after the second activation
abbrev active_again : Configuration → List StatusRow → DeskState
active_again config statuses = record { activations = 2; active = Some config; statuses = statuses; sets = [] }

-- a quiesced storage group stays quiesced where the new deck enables it; a new volume has the status of its deck
group_stays_quiesced : ConfigurationRule (before QuiAll) two (replies.Activated 2) (active_again two (rows QuiAll Enable QuiAll))
group_stays_quiesced = record { reply_is = refl; after_is = refl }

-- a storage group that is disabled for new data sets stays so
group_stays_disabled : ConfigurationRule (before DisNew) two (replies.Activated 2) (active_again two (rows DisNew Enable QuiAll))
group_stays_disabled = record { reply_is = refl; after_is = refl }

-- a deck whose storage group isn't connected and whose volume is disabled, with a second storage group
abbrev stricter : Configuration
stricter = record (deck_with 85 (volume (codes "VOL001") 100 DisAll ∷ [])) {
  groups = record { name = codes "SG1"; status = NotCon; high = 85; low = 1; overflow = false; breakpoint = 10 }
      ∷ record { name = codes "SG2"; status = DisNew; high = 85; low = 1; overflow = false; breakpoint = 10 }
      ∷ [];
}

-- what is enabled stays enabled where the new deck says otherwise; a new storage group has the status of its deck
enabled_stays : ConfigurationRule (desk_under (one 100)) stricter (replies.Activated 2) (active_again stricter (row (Group (codes "SG1")) Enable ∷ row (Group (codes "SG2")) DisNew ∷ row (Volume (codes "VOL001")) Enable ∷ []))
enabled_stays = record { reply_is = refl; after_is = refl }

-- what the new deck leaves out has no status afterwards
left_out : ConfigurationRule (varied Enable Enable Enable) (one 100) (replies.Activated 2) (active_again (one 100) (row (Group (codes "SG1")) Enable ∷ row (Volume (codes "VOL001")) Enable ∷ []))
left_out = record { reply_is = refl; after_is = refl }

-- a storage group and a volume may have the same name
abbrev same_name : DeskState
same_name = record { activations = 1; active = Some two; statuses = row (Group (codes "VOL001")) DisAll ∷ rows Enable QuiAll QuiAll; sets = [] }

-- then each has its own status
volume_of_same_name : DisplayRule same_name (Volume (codes "VOL001")) (replies.Shown (views.Volume (shown (codes "VOL001") QuiAll))) same_name
volume_of_same_name = record { reply_is = refl; after_is = refl }
