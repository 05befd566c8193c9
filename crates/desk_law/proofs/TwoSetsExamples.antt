-- Two data sets on one volume, and a data set on two volumes.
use Rattle.std.proofs.Common.{List, [], ◌∷◌, ◌++◌, refl, inr}
use Rattle.std.specs.Prelude.{codes, Some, map}
use Rattle.acs_tree.specs.Slates.{blank}
use Rattle.sms_construct.specs.Configuration.{Configuration}
use Rattle.sms_construct.specs.declared.data_set.DataSet.{DataSet}
use Rattle.sms_construct.specs.declared.extent.Extent.{Extent}
use Rattle.sms_construct.specs.declared.eattr.Eattr.TheVariants.{No}
use Rattle.sms_construct.specs.declared.reply.Reply.TheVariants as replies
use Rattle.sms_construct.specs.declared.status.Status.TheVariants.{Enable}
use Rattle.sms_construct.specs.declared.target.Target.TheVariants.{Volume}
use Rattle.sms_construct.specs.declared.unit.Unit.TheVariants.{Trk}
use Rattle.sms_construct.specs.declared.view.View.TheVariants as views
use Rattle.desk_law.specs.State.{DeskState}
use Rattle.desk_law.specs.Candidates.{view_of}
use Rattle.desk_law.specs.Allocation.{GrantRule, Wish}
use Rattle.desk_law.specs.Extension.{ExtendRule}
use Rattle.desk_law.specs.Deletion.{DeleteRule}
use Rattle.desk_law.specs.Usage.{UsedRule}
use Rattle.desk_law.specs.Releasing.{ReleaseRule}
use Rattle.desk_law.specs.Display.{DisplayRule}
use Rattle.sms_construct.specs.declared.stop.Stop.TheVariants as stops
use Rattle.desk_law.proofs.ExampleDecks.{ask, asks, data_set, deck_with, desk_under, extent, piece, volume}

-- two enabled volumes of 100 tracks
abbrev pair : Configuration
pair = deck_with 100 (volume (codes "VOL001") 100 Enable ∷ volume (codes "VOL002") 100 Enable ∷ [])

-- sixteen extents of one track on VOL001, from track 1 on
abbrev sixteen : List Extent
sixteen = map (λ n. extent (codes "VOL001") n 1) (1 ∷ 2 ∷ 3 ∷ 4 ∷ 5 ∷ 6 ∷ 7 ∷ 8 ∷ 9 ∷ 10 ∷ 11 ∷ 12 ∷ 13 ∷ 14 ∷ 15 ∷ 16 ∷ [])

-- the desk on which these are catalogued
abbrev desk : List DataSet → DeskState
desk sets = record { activations = 1; active = Some pair; statuses = (desk_under pair).statuses; sets = sets }

-- a data set A.C, with sixteen extents on VOL001
abbrev other : DataSet
other = record (data_set 5 1 sixteen) { dsn = codes "A.C" }

-- A.B with these extents, and a secondary quantity of 5 tracks
abbrev set : List Extent → DataSet
set extents = data_set 5 2 extents

-- sixteen extents of another data set on the volume don't count
extend_beside : ExtendRule (desk (other ∷ set (extent (codes "VOL001") 0 1 ∷ []) ∷ [])) (codes "A.B") (replies.Extended (extent (codes "VOL001") 17 5 ∷ []))
    (desk (other ∷ set (extent (codes "VOL001") 0 1 ∷ extent (codes "VOL001") 17 5 ∷ []) ∷ []))
extend_beside = record { reply_is = refl; after_is = refl }

-- nor do sixteen of its own on another volume
extend_on_second : ExtendRule (desk (set (sixteen ++ extent (codes "VOL002") 0 1 ∷ []) ∷ [])) (codes "A.B") (replies.Extended (extent (codes "VOL002") 1 5 ∷ []))
    (desk (set (sixteen ++ extent (codes "VOL002") 0 1 ∷ extent (codes "VOL002") 1 5 ∷ []) ∷ []))
extend_on_second = record { reply_is = refl; after_is = refl }

-- with sixteen on the last volume a further one grants, where none of its extents lie
extend_past_sixteen : ExtendRule (desk (set sixteen ∷ [])) (codes "A.B") (replies.Extended (extent (codes "VOL002") 0 5 ∷ []))
    (desk (set (sixteen ++ extent (codes "VOL002") 0 5 ∷ []) ∷ []))
extend_past_sixteen = inr (record {
  position = 0;
  may = record { view = view_of (desk (set sixteen ∷ [])) (ask Trk 5 1) (volume (codes "VOL002") 100 Enable); there = refl; listed = refl; first = refl };
  volume = volume (codes "VOL002") 100 Enable;
  there = refl;
  does = record { pieces = piece 0 5 ∷ []; granted = refl; extends = record { reply_is = refl; after_is = refl } };
})

-- an extension changes the data set that was named alone, and stands behind the other
extend_first : ExtendRule (desk (set (extent (codes "VOL001") 0 1 ∷ []) ∷ other ∷ [])) (codes "A.B") (replies.Extended (extent (codes "VOL001") 17 5 ∷ []))
    (desk (other ∷ set (extent (codes "VOL001") 0 1 ∷ extent (codes "VOL001") 17 5 ∷ []) ∷ []))
extend_first = record { reply_is = refl; after_is = refl }

-- what an ALLOC is to get
abbrev wish : Wish
wish = record {
  config = pair;
  classes = record { values = record { dataclas = []; storclas = codes "SC1"; mgmtclas = []; groups = codes "SG1" ∷ [] }; written = blank; stop = stops.Done };
  space = record { unit = Trk; primary = 5; secondary = 5 };
  volumes = 2;
  eattr = No;
}

-- a new data set beside the other, whose sixteen extents don't count
alloc_beside : GrantRule (desk (other ∷ [])) (asks Trk 5 5) wish (replies.Granted (set (extent (codes "VOL001") 17 5 ∷ [])) (record { lines = []; more = blank.more })) (desk (other ∷ set (extent (codes "VOL001") 17 5 ∷ []) ∷ []))
alloc_beside = inr (record {
  position = 0;
  may = record { view = view_of (desk (other ∷ [])) (ask Trk 5 1) (volume (codes "VOL001") 100 Enable); there = refl; listed = refl; first = refl };
  volume = volume (codes "VOL001") 100 Enable;
  there = refl;
  does = record { pieces = piece 17 5 ∷ []; granted = refl; makes = record { reply_is = refl; after_is = refl } };
})

-- ten tracks of A.B behind the sixteen of A.C
abbrev both : DeskState
both = desk (other ∷ set (extent (codes "VOL001") 20 10 ∷ []) ∷ [])

-- DELETE frees the tracks of the named data set alone
delete_one : DeleteRule both (codes "A.B") (replies.Deleted 10) (desk (other ∷ []))
delete_one = record { reply_is = refl; after_is = refl }

-- USED is measured against its own tracks
used_of_one : UsedRule both (codes "A.B") 11 (replies.PastGrant 10) both
used_of_one = record { reply_is = refl; after_is = refl }

-- RELEASE frees its own tracks
release_one : ReleaseRule both (codes "A.B") (replies.Released 9) (desk (other ∷ set (extent (codes "VOL001") 20 1 ∷ []) ∷ []))
release_one = record { reply_is = refl; after_is = refl }

-- a volume is shown with the extents and the tracks of both
display_both : DisplayRule both (Volume (codes "VOL001")) (replies.Shown (views.Volume (record { volser = codes "VOL001"; group = codes "SG1"; status = Enable; capacity = 100; free = 74; extents = 17 }))) both
display_both = record { reply_is = refl; after_is = refl }
