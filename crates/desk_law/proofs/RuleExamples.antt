-- Each rule at worked examples: the reply, and the state after it.
use Rattle.std.proofs.Common.{ℕ, [], ◌∷◌, refl, inl, inr}
use Rattle.std.specs.Prelude.{codes, Some}
use Rattle.acs_tree.specs.Slates.{blank}
use Rattle.sms_construct.specs.Configuration.{Configuration}
use Rattle.sms_construct.specs.declared.action.Action.TheVariants as actions
use Rattle.sms_construct.specs.declared.data_set.DataSet.{DataSet}
use Rattle.sms_construct.specs.declared.eattr.Eattr.TheVariants.{No}
use Rattle.sms_construct.specs.declared.reply.Reply.TheVariants as replies
use Rattle.sms_construct.specs.declared.status.Status.TheVariants.{DisAll, DisNew, Enable, QuiAll, QuiNew}
use Rattle.sms_construct.specs.declared.target.Target.TheVariants.{Group, Set, Volume}
use Rattle.sms_construct.specs.declared.unit.Unit.TheVariants.{Trk}
use Rattle.sms_construct.specs.declared.view.View.TheVariants as views
use Rattle.sms_construct.specs.declared.why_no_extend.WhyNoExtend.TheVariants as reasons
use Rattle.desk_law.specs.State.{DeskState, with_set, with_status}
use Rattle.desk_law.specs.Candidates.{view_of}
use Rattle.desk_law.specs.Classification.{Classes}
use Rattle.desk_law.specs.Allocation.{AllocRule, GrantRule, Wish}
use Rattle.desk_law.specs.Extension.{ExtendRule}
use Rattle.desk_law.specs.Deletion.{DeleteRule}
use Rattle.desk_law.specs.Usage.{UsedRule}
use Rattle.desk_law.specs.Releasing.{ReleaseRule}
use Rattle.desk_law.specs.Varying.{VaryRule}
use Rattle.desk_law.specs.Display.{DisplayRule}
use Rattle.desk_law.specs.Purging.{PurgeRule}
use Rattle.desk_law.specs.Activation.{ConfigurationRule}
use Rattle.sms_construct.specs.declared.stop.Stop.TheVariants as stops
use Rattle.desk_law.proofs.ExampleDecks.{ask, asks, asks_class, data_set, deck_with, desk_under, desk_with, extent}
use Rattle.desk_law.proofs.ExampleDecks.{new_desk, one, piece, two, volume}

-- A.B with ten tracks of VOL001, of which it uses so many; the desk on which it is catalogued, and the one on which
-- nothing is
abbrev ten : ℕ → DataSet
ten used = record (data_set 5 1 (extent (codes "VOL001") 0 10 ∷ [])) { used = used }

abbrev desk : ℕ → DeskState
desk used = desk_with (one 100) (ten used)

abbrev bare : DeskState
bare = desk_under (one 100)

-- ALLOC

alloc_without_configuration : AllocRule new_desk (codes "JOB1") (asks Trk 1 0) replies.NoConfig new_desk
alloc_without_configuration = record { reply_is = refl; after_is = refl }

alloc_in_use : AllocRule (desk 0) (codes "JOB1") (asks Trk 1 0) replies.NameInUse (desk 0)
alloc_in_use = record { reply_is = refl; after_is = refl }

alloc_without_group : AllocRule bare (codes "JOB1") (asks_class (codes "SC1")) (replies.NoGroup (record { lines = []; more = blank.more })) bare
alloc_without_group = record { reply_is = refl; after_is = refl }

-- what routines gave: the storage class SC1 and the storage group SG1
abbrev gave : Classes
gave = record { values = record { dataclas = []; storclas = codes "SC1"; mgmtclas = []; groups = codes "SG1" ∷ [] }; written = blank; stop = stops.Done }

abbrev wish : Configuration → ℕ → ℕ → Wish
wish config primary secondary = record { config = config; classes = gave; space = record { unit = Trk; primary = primary; secondary = secondary }; volumes = 1; eattr = No }

-- A00: the data set is catalogued
alloc_granted : GrantRule bare (asks Trk 10 5) (wish (one 100) 10 5) (replies.Granted (ten 0) (record { lines = []; more = blank.more })) (with_set bare (ten 0))
alloc_granted = inr (record {
  position = 0;
  may = record { view = view_of bare (ask Trk 10 1) (volume (codes "VOL001") 100 Enable); there = refl; listed = refl; first = refl };
  volume = volume (codes "VOL001") 100 Enable;
  there = refl;
  does = record { pieces = piece 0 10 ∷ []; granted = refl; makes = record { reply_is = refl; after_is = refl } };
})

-- R18: no volume has room
alloc_no_volume : GrantRule (desk 0) (asks Trk 91 0) (wish (one 100) 91 0) (replies.NoVolume (record { lines = []; more = blank.more })) (desk 0)
alloc_no_volume = inl (refl, record { reply_is = refl; after_is = refl })

-- EXTEND

extend_not_found : ExtendRule bare (codes "A.B") replies.NotFound bare
extend_not_found = record { reply_is = refl; after_is = refl }

extend_without_secondary : ExtendRule (desk_with (one 100) (data_set 0 1 (extent (codes "VOL001") 0 10 ∷ []))) (codes "A.B") (replies.NoExtend reasons.Secondary) (desk_with (one 100) (data_set 0 1 (extent (codes "VOL001") 0 10 ∷ [])))
extend_without_secondary = record { reply_is = refl; after_is = refl }

-- two volumes of 20 tracks, the second quiesced, and the threshold 100
abbrev small : Configuration
small = deck_with 100 (volume (codes "VOL001") 20 Enable ∷ volume (codes "VOL002") 20 QuiAll ∷ [])

abbrev grown : ℕ → DeskState
grown volumes = desk_with small (data_set 10 volumes (extent (codes "VOL001") 0 10 ∷ []))

abbrev filled : ℕ → DeskState
filled volumes = desk_with small (data_set 10 volumes (extent (codes "VOL001") 0 10 ∷ extent (codes "VOL001") 10 10 ∷ []))

abbrev full : DeskState
full = desk_with small (data_set 10 2 (extent (codes "VOL001") 0 10 ∷ extent (codes "VOL001") 10 10 ∷ extent (codes "VOL002") 0 10 ∷ extent (codes "VOL002") 10 10 ∷ []))

-- on the last volume
extend_on_last : ExtendRule (grown 2) (codes "A.B") (replies.Extended (extent (codes "VOL001") 10 10 ∷ [])) (filled 2)
extend_on_last = record { reply_is = refl; after_is = refl }

-- on a further volume
extend_further : ExtendRule (filled 2) (codes "A.B") (replies.Extended (extent (codes "VOL002") 0 10 ∷ []))
    (desk_with small (data_set 10 2 (extent (codes "VOL001") 0 10 ∷ extent (codes "VOL001") 10 10 ∷ extent (codes "VOL002") 0 10 ∷ [])))
extend_further = inr (record {
  position = 0;
  may = record { view = view_of (filled 2) (ask Trk 10 1) (volume (codes "VOL002") 20 QuiAll); there = refl; listed = refl; first = refl };
  volume = volume (codes "VOL002") 20 QuiAll;
  there = refl;
  does = record { pieces = piece 0 10 ∷ []; granted = refl; extends = record { reply_is = refl; after_is = refl } };
})

-- the data set may lie on no more volumes
extend_on_one : ExtendRule (filled 1) (codes "A.B") (replies.NoExtend reasons.Room) (filled 1)
extend_on_one = record { reply_is = refl; after_is = refl }

-- both volumes are full
extend_when_full : ExtendRule full (codes "A.B") (replies.NoExtend reasons.Room) full
extend_when_full = record { reply_is = refl; after_is = refl }

-- the data set may lie on a third volume, and there is none
extend_rejected : ExtendRule (desk_with small (data_set 10 3 (extent (codes "VOL001") 0 20 ∷ extent (codes "VOL002") 0 20 ∷ []))) (codes "A.B") (replies.NoExtend reasons.Room)
    (desk_with small (data_set 10 3 (extent (codes "VOL001") 0 20 ∷ extent (codes "VOL002") 0 20 ∷ [])))
extend_rejected = inl (refl, record { reply_is = refl; after_is = refl })

-- DELETE

delete_not_found : DeleteRule bare (codes "A.B") replies.NotFound bare
delete_not_found = record { reply_is = refl; after_is = refl }

deleted : DeleteRule (desk 0) (codes "A.B") (replies.Deleted 10) bare
deleted = record { reply_is = refl; after_is = refl }

-- USED

used_not_found : UsedRule bare (codes "A.B") 1 replies.NotFound bare
used_not_found = record { reply_is = refl; after_is = refl }

used_past_grant : UsedRule (desk 0) (codes "A.B") 11 (replies.PastGrant 10) (desk 0)
used_past_grant = record { reply_is = refl; after_is = refl }

used_noted : UsedRule (desk 0) (codes "A.B") 3 replies.Noted (desk 3)
used_noted = record { reply_is = refl; after_is = refl }

-- RELEASE: seven of ten tracks, and then none; four used are then past the grant

release_not_found : ReleaseRule bare (codes "A.B") replies.NotFound bare
release_not_found = record { reply_is = refl; after_is = refl }

abbrev three : DeskState
three = desk_with (one 100) (record (data_set 5 1 (extent (codes "VOL001") 0 3 ∷ [])) { used = 3 })

released : ReleaseRule (desk 3) (codes "A.B") (replies.Released 7) three
released = record { reply_is = refl; after_is = refl }

released_again : ReleaseRule three (codes "A.B") (replies.Released 0) three
released_again = record { reply_is = refl; after_is = refl }

past_released : UsedRule three (codes "A.B") 4 (replies.PastGrant 3) three
past_released = record { reply_is = refl; after_is = refl }

-- VARY

vary_unknown : VaryRule bare (Volume (codes "VOL009")) actions.Disable replies.UnknownName bare
vary_unknown = record { reply_is = refl; after_is = refl }

vary_set : VaryRule (desk 0) (Set (codes "A.B")) actions.Disable replies.UnknownName (desk 0)
vary_set = record { reply_is = refl; after_is = refl }

vary_without_configuration : VaryRule new_desk (Group (codes "SG1")) actions.Enable replies.UnknownName new_desk
vary_without_configuration = record { reply_is = refl; after_is = refl }

abbrev varied : Configuration → DeskState
varied config = with_status (desk_under config) (Volume (codes "VOL001")) DisAll

vary_volume : VaryRule bare (Volume (codes "VOL001")) actions.Disable (replies.Varied (Volume (codes "VOL001")) DisAll) (varied (one 100))
vary_volume = record { reply_is = refl; after_is = refl }

vary_group : VaryRule bare (Group (codes "SG1")) actions.QuiesceNew (replies.Varied (Group (codes "SG1")) QuiNew) (with_status bare (Group (codes "SG1")) QuiNew)
vary_group = record { reply_is = refl; after_is = refl }

vary_for_new : VaryRule bare (Group (codes "SG1")) actions.DisableNew (replies.Varied (Group (codes "SG1")) DisNew) (with_status bare (Group (codes "SG1")) DisNew)
vary_for_new = record { reply_is = refl; after_is = refl }

vary_quiesce : VaryRule bare (Group (codes "SG1")) actions.Quiesce (replies.Varied (Group (codes "SG1")) QuiAll) (with_status bare (Group (codes "SG1")) QuiAll)
vary_quiesce = record { reply_is = refl; after_is = refl }

vary_back : VaryRule (varied (one 100)) (Volume (codes "VOL001")) actions.Enable (replies.Varied (Volume (codes "VOL001")) Enable) bare
vary_back = record { reply_is = refl; after_is = refl }

-- DISPLAY

display_unknown : DisplayRule bare (Group (codes "SG9")) replies.UnknownName bare
display_unknown = record { reply_is = refl; after_is = refl }

display_nothing_active : DisplayRule new_desk (Volume (codes "VOL001")) replies.UnknownName new_desk
display_nothing_active = record { reply_is = refl; after_is = refl }

display_not_found : DisplayRule bare (Set (codes "A.B")) replies.NotFound bare
display_not_found = record { reply_is = refl; after_is = refl }

display_volume : DisplayRule (desk 0) (Volume (codes "VOL001")) (replies.Shown (views.Volume (record { volser = codes "VOL001"; group = codes "SG1"; status = Enable; capacity = 100; free = 90; extents = 1 }))) (desk 0)
display_volume = record { reply_is = refl; after_is = refl }

display_group : DisplayRule (desk_with two (ten 0)) (Group (codes "SG1")) (replies.Shown (views.Group (codes "SG1") Enable 2 200 190)) (desk_with two (ten 0))
display_group = record { reply_is = refl; after_is = refl }

display_set : DisplayRule (desk 3) (Set (codes "A.B")) (replies.Shown (views.Set (ten 3))) (desk 3)
display_set = record { reply_is = refl; after_is = refl }

-- PURGE

purge_raises : PurgeRule bare 0 (codes "JOB1") 6 (replies.Purged (codes "JOB1") 6) bare
purge_raises = record { reply_is = refl; after_is = refl }

purge_lower : PurgeRule bare 6 (codes "JOB1") 3 (replies.Purged (codes "JOB1") 6) bare
purge_lower = record { reply_is = refl; after_is = refl }

-- ACTIVATE, of the configuration that a deck gives

first_activation : ConfigurationRule new_desk (one 100) (replies.Activated 1) bare
first_activation = record { reply_is = refl; after_is = refl }

volume_in_use : ConfigurationRule (desk 0) (one 99) (replies.VolumeInUse (codes "VOL001")) (desk 0)
volume_in_use = record { reply_is = refl; after_is = refl }

second_activation : ConfigurationRule (desk 0) (one 101) (replies.Activated 2) (record { activations = 2; active = Some (one 101); statuses = (desk_under (one 101)).statuses; sets = ten 0 ∷ [] })
second_activation = record { reply_is = refl; after_is = refl }

-- a status that was varied stays, and a volume that is new has that of its deck
statuses_stay : ConfigurationRule (varied (one 100)) two (replies.Activated 2) (record { activations = 2; active = Some two; statuses = (varied two).statuses; sets = [] })
statuses_stay = record { reply_is = refl; after_is = refl }
