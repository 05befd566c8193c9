-- EXTEND of a data set whose volumes moved to another storage group since its allocation.
use Rattle.std.proofs.Common.{◌≡◌, ℕ, false, List, [], ◌∷◌, refl, inl, inr}
use Rattle.std.specs.Prelude.{codes}
use Rattle.sms_construct.specs.Configuration.{Configuration}
use Rattle.sms_construct.specs.declared.extent.Extent.{Extent}
use Rattle.sms_construct.specs.declared.reply.Reply.TheVariants as replies
use Rattle.sms_construct.specs.declared.status.Status.TheVariants.{DisAll, Enable}
use Rattle.sms_construct.specs.declared.target.Target.TheVariants.{Group, Set}
use Rattle.sms_construct.specs.declared.unit.Unit.TheVariants.{Trk}
use Rattle.sms_construct.specs.declared.view.View.TheVariants as views
use Rattle.sms_construct.specs.declared.volume.VolumeDef.{VolumeDef}
use Rattle.sms_construct.specs.declared.why_no_extend.WhyNoExtend.TheVariants as reasons
use Rattle.desk_law.specs.State.{DeskState, with_status}
use Rattle.desk_law.specs.Candidates.{view_of}
use Rattle.desk_law.specs.Display.{DisplayRule}
use Rattle.desk_law.specs.Extension.{ExtendRule, first_volume, others_of}
use Rattle.desk_law.proofs.ExampleDecks.{ask, data_set, deck_with, desk_with, extent, group, piece}

-- an enabled volume of 20 tracks in this storage group
abbrev twenty : List ℕ → List ℕ → VolumeDef
twenty volser name = record { volser = volser; group = name; status = Enable; tracks = 20 }

-- two storage groups: VOL001 and VOL002 are in SG2 now, VOL003 and VOL004 in SG1
abbrev moved : Configuration
moved = record (deck_with 100 (twenty (codes "VOL001") (codes "SG2") ∷ twenty (codes "VOL002") (codes "SG2") ∷ twenty (codes "VOL003") (codes "SG1") ∷ twenty (codes "VOL004") (codes "SG1") ∷ [])) {
  groups = group (codes "SG1") 100 false ∷ group (codes "SG2") 100 false ∷ [];
}

-- a data set that was allocated in SG1, with a secondary quantity of 10 tracks
abbrev desk : ℕ → List Extent → DeskState
desk volumes extents = desk_with moved (data_set 10 volumes extents)

-- the same where a storage group is disabled
abbrev without_group : List ℕ → DeskState → DeskState
without_group name s = with_status s (Group name) DisAll

-- ten tracks of VOL001, and all twenty
abbrev half : List Extent
half = extent (codes "VOL001") 0 10 ∷ []

abbrev whole : List Extent
whole = extent (codes "VOL001") 0 10 ∷ extent (codes "VOL001") 10 10 ∷ []

-- a further volume is one of the storage group in which the first volume is now, not of the data set's own
extend_moved : ExtendRule (desk 2 whole) (codes "A.B") (replies.Extended (extent (codes "VOL002") 0 10 ∷ [])) (desk 2 (extent (codes "VOL001") 0 10 ∷ extent (codes "VOL001") 10 10 ∷ extent (codes "VOL002") 0 10 ∷ []))
extend_moved = inr (record {
  position = 0;
  may = record { view = view_of (desk 2 whole) (ask Trk 10 1) (twenty (codes "VOL002") (codes "SG2")); there = refl; listed = refl; first = refl };
  volume = twenty (codes "VOL002") (codes "SG2");
  there = refl;
  does = record { pieces = piece 0 10 ∷ []; granted = refl; extends = record { reply_is = refl; after_is = refl } };
})

-- no other volume is looked at
moved_others : others_of (desk 2 whole) (data_set 10 2 whole) (first_volume (desk 2 whole) whole) ≡ twenty (codes "VOL002") (codes "SG2") ∷ []
moved_others = refl

-- a data set on a volume of SG2 first, and on one of SG1 last, both full
abbrev spread : List Extent
spread = extent (codes "VOL001") 0 20 ∷ extent (codes "VOL003") 0 20 ∷ []

-- the storage group of the first volume counts, not that of the last
extend_spread : ExtendRule (desk 3 spread) (codes "A.B") (replies.Extended (extent (codes "VOL002") 0 10 ∷ [])) (desk 3 (extent (codes "VOL001") 0 20 ∷ extent (codes "VOL003") 0 20 ∷ extent (codes "VOL002") 0 10 ∷ []))
extend_spread = inr (record {
  position = 0;
  may = record { view = view_of (desk 3 spread) (ask Trk 10 1) (twenty (codes "VOL002") (codes "SG2")); there = refl; listed = refl; first = refl };
  volume = twenty (codes "VOL002") (codes "SG2");
  there = refl;
  does = record { pieces = piece 0 10 ∷ []; granted = refl; extends = record { reply_is = refl; after_is = refl } };
})

-- and the last volume grants, not the first, although that has room
extend_on_last : ExtendRule (desk 3 (extent (codes "VOL001") 0 10 ∷ extent (codes "VOL003") 0 10 ∷ [])) (codes "A.B") (replies.Extended (extent (codes "VOL003") 10 10 ∷ []))
    (desk 3 (extent (codes "VOL001") 0 10 ∷ extent (codes "VOL003") 0 10 ∷ extent (codes "VOL003") 10 10 ∷ []))
extend_on_last = record { reply_is = refl; after_is = refl }

-- the last volume grants where the data set's own storage group is disabled and the volume's isn't
own_group_disabled : ExtendRule (without_group (codes "SG1") (desk 1 half)) (codes "A.B") (replies.Extended (extent (codes "VOL001") 10 10 ∷ [])) (without_group (codes "SG1") (desk 1 whole))
own_group_disabled = record { reply_is = refl; after_is = refl }

-- the storage group in which the volume is now is disabled: the volume grants nothing
present_group_disabled : ExtendRule (without_group (codes "SG2") (desk 1 half)) (codes "A.B") (replies.NoExtend reasons.Room) (without_group (codes "SG2") (desk 1 half))
present_group_disabled = record { reply_is = refl; after_is = refl }

-- nor does another volume of that storage group, and those of SG1 aren't asked
further_disabled : ExtendRule (without_group (codes "SG2") (desk 2 half)) (codes "A.B") (replies.NoExtend reasons.Room) (without_group (codes "SG2") (desk 2 half))
further_disabled = inl (refl, record { reply_is = refl; after_is = refl })

-- DISPLAY shows a data set with the storage group of its allocation
display_moved_set : DisplayRule (desk 1 half) (Set (codes "A.B")) (replies.Shown (views.Set (data_set 10 1 half))) (desk 1 half)
display_moved_set = record { reply_is = refl; after_is = refl }

-- its tracks count in the storage group to which its volume belongs now
display_new_group : DisplayRule (desk 1 half) (Group (codes "SG2")) (replies.Shown (views.Group (codes "SG2") Enable 2 40 30)) (desk 1 half)
display_new_group = record { reply_is = refl; after_is = refl }

-- and not in the old one
display_old_group : DisplayRule (desk 1 half) (Group (codes "SG1")) (replies.Shown (views.Group (codes "SG1") Enable 2 40 40)) (desk 1 half)
display_old_group = record { reply_is = refl; after_is = refl }
