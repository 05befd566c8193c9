-- The other operations at worked examples.
use Rattle.std.proofs.Common.{◌≡◌, [], ◌∷◌, refl}
use Rattle.std.specs.Prelude.{codes, Some, None, Ok, Err, max}
use Rattle.sms_construct.specs.Status.{status_of_action}
use Rattle.sms_construct.specs.declared.action.Action.TheVariants as actions
use Rattle.sms_construct.specs.declared.data_set.DataSet.{DataSet}
use Rattle.sms_construct.specs.declared.reply.Reply.TheVariants as replies
use Rattle.sms_construct.specs.declared.status.Status.TheVariants.{DisAll, Enable, NotCon, QuiAll}
use Rattle.sms_construct.specs.declared.target.Target.TheVariants.{Group, Set, Volume}
use Rattle.sms_construct.specs.declared.unit.Unit.TheVariants.{Cyl}
use Rattle.sms_construct.specs.declared.view.View.TheVariants as views
use Rattle.desk_law.specs.State.{DeskState, set_named, with_status, without_name}
use Rattle.desk_law.specs.Extents.{tracks_of_set, with_extents}
use Rattle.desk_law.specs.Statuses.{status_in}
use Rattle.desk_law.specs.Volumes.{times_target}
use Rattle.desk_law.specs.Replies.{found_or}
use Rattle.desk_law.specs.Usage.{used_case}
use Rattle.desk_law.specs.Releasing.{kept_of, tracks_kept}
use Rattle.desk_law.specs.Display.{reply_for_none, view_of_target}
use Rattle.desk_law.specs.Activation.{activated, first_barred}
use Rattle.desk_law.proofs.ExampleDecks.{data_set, deck_with, desk_under, desk_with, extent, new_desk, one, two, volume}

abbrev ten : DataSet
ten = data_set 5 1 (extent (codes "VOL001") 0 10 ∷ [])

abbrev desk : DeskState
desk = desk_with (one 100) ten

-- DELETE frees the tracks of all extents

deleted : tracks_of_set (data_set 5 1 (extent (codes "VOL001") 0 10 ∷ extent (codes "VOL002") 0 3 ∷ [])) ≡ 13
deleted = refl

gone : set_named (codes "A.B") (without_name desk (codes "A.B")).sets ≡ None
gone = refl

others_stay : (without_name desk (codes "A.C")).sets ≡ ten ∷ []
others_stay = refl

-- USED: no such data set; more than was granted; as many as were granted

used_not_found : used_case desk (codes "A.C") 0 ≡ Err replies.NotFound
used_not_found = refl

past_grant : used_case desk (codes "A.B") 11 ≡ Err (replies.PastGrant 10)
past_grant = refl

all_used : used_case desk (codes "A.B") 10 ≡ Ok ten
all_used = refl

-- RELEASE keeps the used tracks, at least one, and whole cylinders, in the order of the extents

keeps_used : (kept_of (with_extents ten 3 ten.extents)).extents ≡ extent (codes "VOL001") 0 3 ∷ []
keeps_used = refl

keeps_one : (kept_of ten).extents ≡ extent (codes "VOL001") 0 1 ∷ []
keeps_one = refl

keeps_all : (kept_of (with_extents ten 10 ten.extents)).extents ≡ ten.extents
keeps_all = refl

-- a volume without an extent left is none of the data set's
drops_the_second : (kept_of (with_extents ten 13 (extent (codes "VOL001") 0 10 ∷ extent (codes "VOL001") 10 10 ∷ extent (codes "VOL002") 0 10 ∷ []))).extents ≡ extent (codes "VOL001") 0 10 ∷ extent (codes "VOL001") 10 3 ∷ []
drops_the_second = refl

whole_cylinders : tracks_kept (record ten { unit = Cyl; used = 16 }) ≡ 30
whole_cylinders = refl

-- VARY: a storage group and a volume of the active configuration, and nothing else

varied_group : times_target (desk_under two).active (Group (codes "SG1")) ≡ 1
varied_group = refl

unknown_group : times_target (desk_under two).active (Group (codes "SG9")) ≡ 0
unknown_group = refl

no_status_of_set : times_target desk.active (Set (codes "A.B")) ≡ 0
no_status_of_set = refl

nothing_active : times_target new_desk.active (Volume (codes "VOL001")) ≡ 0
nothing_active = refl

varied_volume : status_in (with_status (desk_under two) (Volume (codes "VOL002")) (status_of_action actions.Disable)).statuses (Volume (codes "VOL002")) NotCon ≡ DisAll
varied_volume = refl

other_volume_stays : status_in (with_status (desk_under two) (Volume (codes "VOL002")) DisAll).statuses (Volume (codes "VOL001")) NotCon ≡ Enable
other_volume_stays = refl

-- DISPLAY

shown_volume : view_of_target desk (Volume (codes "VOL001")) ≡ Some (views.Volume (record { volser = codes "VOL001"; group = codes "SG1"; status = Enable; capacity = 100; free = 90; extents = 1 }))
shown_volume = refl

-- 31 tracks of which 14 and then a cylinder are granted: 2 are free, on 2 extents
shown_cylinder : view_of_target (desk_with (one 31) (data_set 0 1 (extent (codes "VOL001") 0 14 ∷ extent (codes "VOL001") 15 15 ∷ []))) (Volume (codes "VOL001"))
    ≡ Some (views.Volume (record { volser = codes "VOL001"; group = codes "SG1"; status = Enable; capacity = 31; free = 2; extents = 2 }))
shown_cylinder = refl

shown_group : view_of_target (desk_with two ten) (Group (codes "SG1")) ≡ Some (views.Group (codes "SG1") Enable 2 200 190)
shown_group = refl

shown_set : view_of_target desk (Set (codes "A.B")) ≡ Some (views.Set ten)
shown_set = refl

unknown_volume : found_or (reply_for_none (Volume (codes "VOL009"))) (view_of_target desk (Volume (codes "VOL009"))) ≡ Err replies.UnknownName
unknown_volume = refl

set_not_found : found_or (reply_for_none (Set (codes "A.C"))) (view_of_target desk (Set (codes "A.C"))) ≡ Err replies.NotFound
set_not_found = refl

-- ACTIVATE: a volume in use that is missing or smaller bars the deck; one that isn't in use, or is as large, doesn't

missing : first_barred desk (deck_with 85 (volume (codes "VOL002") 100 Enable ∷ [])) ≡ Some (volume (codes "VOL001") 100 Enable)
missing = refl

smaller : first_barred desk (one 99) ≡ Some (volume (codes "VOL001") 100 Enable)
smaller = refl

as_large : first_barred desk (one 100) ≡ None
as_large = refl

larger : first_barred desk (one 101) ≡ None
larger = refl

unused_missing : first_barred (desk_with two ten) (one 100) ≡ None
unused_missing = refl

-- the first in byte order is told
first_of_two : first_barred (desk_with two (data_set 5 2 (extent (codes "VOL002") 0 10 ∷ extent (codes "VOL001") 0 10 ∷ []))) (deck_with 85 []) ≡ Some (volume (codes "VOL001") 100 Enable)
first_of_two = refl

-- what was varied stays over an activation; what is new has the status of the deck
status_kept : status_in (activated (with_status (desk_under (one 100)) (Volume (codes "VOL001")) DisAll) two).statuses (Volume (codes "VOL001")) NotCon ≡ DisAll
status_kept = refl

status_of_deck : status_in (activated (desk_under (one 100)) two).statuses (Volume (codes "VOL002")) NotCon ≡ QuiAll
status_of_deck = refl

counted : (activated (desk_under two) two).activations ≡ 2
counted = refl

-- PURGE: the greater floor stands
floor_raised : max 0 6 ≡ 6
floor_raised = refl

floor_stays : max 6 3 ≡ 6
floor_stays = refl
