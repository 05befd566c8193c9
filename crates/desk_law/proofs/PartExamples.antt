-- Volumes of two parts, and storage groups in tiers.
use Rattle.std.proofs.Common.{◌≡◌, ℕ, true, false, Bool, List, [], ◌∷◌, refl, arith, inl, inr}
use Rattle.std.specs.Prelude.{codes, map}
use Rattle.acs_tree.specs.Slates.{blank}
use Rattle.sms_construct.specs.Configuration.{Configuration}
use Rattle.sms_construct.specs.declared.data_set.DataSet.{DataSet}
use Rattle.sms_construct.specs.declared.eattr.Eattr.TheVariants.{No, Opt}
use Rattle.sms_construct.specs.declared.extent.Extent.{Extent}
use Rattle.sms_construct.specs.declared.reply.Reply.TheVariants as replies
use Rattle.sms_construct.specs.declared.status.Status.TheVariants.{Enable, NotCon}
use Rattle.sms_construct.specs.declared.target.Target.TheVariants.{Group, Volume}
use Rattle.sms_construct.specs.declared.unit.Unit.TheVariants.{Cyl, Trk}
use Rattle.sms_construct.specs.declared.volume.VolumeDef.{VolumeDef}
use Rattle.volume_lists.specs.Choice.{MayChoose}
use Rattle.desk_law.specs.State.{DeskState, with_status}
use Rattle.desk_law.specs.Allocation.{Wish, ask_of, candidates_of, tiers_of}
use Rattle.desk_law.specs.Candidates.{Ask, need_on, view_of, want_of}
use Rattle.desk_law.specs.Extension.{ask_more}
use Rattle.desk_law.specs.Lawful.{IsLawful, LiesInPart}
use Rattle.desk_law.specs.Releasing.{ReleaseRule, kept_of}
use Rattle.desk_law.specs.Statuses.{may_have}
use Rattle.sms_construct.specs.declared.stop.Stop.TheVariants as stops
use Rattle.desk_law.proofs.ExampleDecks.{ask, data_set, deck_with, desk_under, desk_with, extent, group, one}

-- RELEASE: an extent that goes on is cut by its part of the volume

-- a data set that uses so many tracks of these extents
abbrev used : ℕ → List Extent → DataSet
used tracks extents = record (data_set 0 2 extents) { used = tracks }

abbrev kept : ℕ → List Extent → List Extent
kept tracks extents = (kept_of (used tracks extents)).extents

-- before the border tracks are cut one by one
cut_low : kept 316 (extent (codes "VOL001") 0 630 ∷ []) ≡ extent (codes "VOL001") 0 316 ∷ []
cut_low = refl

-- from it on a unit that is used in part is kept whole
cut_high : kept 316 (extent (codes "VOL001") 982800 945 ∷ []) ≡ extent (codes "VOL001") 982800 630 ∷ []
cut_high = refl

whole_high : kept 315 (extent (codes "VOL001") 983115 945 ∷ []) ≡ extent (codes "VOL001") 983115 315 ∷ []
whole_high = refl

one_high : kept 0 (extent (codes "VOL001") 983115 945 ∷ []) ≡ extent (codes "VOL001") 983115 315 ∷ []
one_high = refl

-- the last track before the border
last_low : kept 0 (extent (codes "VOL001") 982798 2 ∷ []) ≡ extent (codes "VOL001") 982798 1 ∷ []
last_low = refl

-- the last extent that is kept decides alone
low_then_high : kept 11 (extent (codes "VOL001") 5 10 ∷ extent (codes "VOL002") 982800 630 ∷ extent (codes "VOL001") 20 10 ∷ []) ≡ extent (codes "VOL001") 5 10 ∷ extent (codes "VOL002") 982800 315 ∷ []
low_then_high = refl

high_then_low : kept 316 (extent (codes "VOL002") 982800 315 ∷ extent (codes "VOL001") 5 10 ∷ []) ≡ extent (codes "VOL002") 982800 315 ∷ extent (codes "VOL001") 5 1 ∷ []
high_then_low = refl

whole_extents : kept 325 (extent (codes "VOL002") 982800 315 ∷ extent (codes "VOL001") 5 10 ∷ extent (codes "VOL001") 20 10 ∷ []) ≡ extent (codes "VOL002") 982800 315 ∷ extent (codes "VOL001") 5 10 ∷ []
whole_extents = refl

-- cylinders are rounded first
cylinders_high : (kept_of (record (used 3 (extent (codes "VOL001") 982800 630 ∷ [])) { unit = Cyl })).extents ≡ extent (codes "VOL001") 982800 315 ∷ []
cylinders_high = refl

-- ten cylinders from the border on, of which three tracks are used: nothing is freed
abbrev ten : DataSet
ten = record (used 3 (extent (codes "VOL001") 982800 315 ∷ [])) { unit = Cyl }

frees_nothing : ReleaseRule (desk_with (one 983115) ten) (codes "A.B") (replies.Released 0) (desk_with (one 983115) ten)
frees_nothing = record { reply_is = refl; after_is = refl }

-- Where extents may lie.

up_to_border : LiesInPart (extent (codes "VOL001") 982790 10)
up_to_border = inl (omega arith)

from_border : LiesInPart (extent (codes "VOL001") 982800 630)
from_border = inr (record { behind = omega arith; start = refl; length = refl })

meets_border : LiesInPart (extent (codes "VOL001") 982799 2) → ⊥
meets_border (inl before) = omega (arith, before)
meets_border (inr managed) = let behind = managed.behind in omega (arith, behind)

no_whole_units : LiesInPart (extent (codes "VOL001") 983115 300) → ⊥
no_whole_units (inl before) = omega (arith, before)
no_whole_units (inr managed) =
    let bad : 300 ≡ 0 = managed.length in omega (arith, bad)

-- A state that isn't lawful: its data set meets the border, or has a secondary quantity of ten tracks in cylinders; its
-- volume is NOTCON

border_is_met : IsLawful (desk_with (one 983115) (data_set 0 1 (extent (codes "VOL001") 982799 2 ∷ []))) → ⊥
border_is_met lawful = meets_border lawful.sets.0.parted.0

part_of_a_cylinder : IsLawful (desk_with (one 100) (record (data_set 10 1 (extent (codes "VOL001") 0 15 ∷ [])) { unit = Cyl })) → ⊥
part_of_a_cylinder lawful =
    let bad : 10 ≡ 0 = lawful.sets.0.whole in omega (arith, bad)

volume_not_connected : IsLawful (with_status (desk_under (one 100)) (Volume (codes "VOL001")) NotCon) → ⊥
volume_not_connected lawful =
    let bad : false ≡ true = lawful.connected.1.0 in absurd cc

-- The breakpoint is that of the candidate's own storage group, whatever the data set's.

-- VOL001 is in SG1 and VOL002 in SG2, 100 tracks each; the storage groups have the breakpoints 10 and 7
abbrev of_group : List ℕ → List ℕ → VolumeDef
of_group volser name = record { volser = volser; group = name; status = Enable; tracks = 100 }

abbrev pair : Bool → Configuration
pair tiered = record (deck_with 85 (of_group (codes "VOL001") (codes "SG1") ∷ of_group (codes "VOL002") (codes "SG2") ∷ [])) {
  storage_classes = record { name = codes "SC0"; multi_tier = true } ∷ record { name = codes "SC1"; multi_tier = tiered } ∷ [];
  groups = group (codes "SG1") 85 false ∷ record (group (codes "SG2") 85 false) { breakpoint = 7 } ∷ [];
}

need_on_first : need_on (desk_under (pair true)) (of_group (codes "VOL001") (codes "SG1")) (record (ask Trk 20 1) { eattr = Opt }) 3 ≡ record { unit = Trk; tracks = 20; held = 3; eattr = Opt; breakpoint = 10 }
need_on_first = refl

need_on_second : need_on (desk_under (pair true)) (of_group (codes "VOL002") (codes "SG2")) (ask_more (data_set 20 2 [])) 3 ≡ record { unit = Trk; tracks = 20; held = 3; eattr = No; breakpoint = 7 }
need_on_second = refl

-- Tiers: the routine lists SG2 before SG1

abbrev wish : Bool → Wish
wish tiered = record {
  config = pair tiered;
  classes = record { values = record { dataclas = []; storclas = codes "SC1"; mgmtclas = []; groups = codes "SG2" ∷ codes "SG1" ∷ [] }; written = blank; stop = stops.Done };
  space = record { unit = Trk; primary = 50; secondary = 50 };
  volumes = 1;
  eattr = No;
}

in_order : tiers_of (wish true) ≡ codes "SG2" ∷ codes "SG1" ∷ []
in_order = refl

-- without multi_tier the order doesn't count
in_no_order : tiers_of (wish false) ≡ []
in_no_order = refl

-- the tier of each volume
abbrev tiers : Ask → List ℕ
tiers asked = map (λ volume. (view_of (desk_under (pair true)) asked volume).tier) (pair true).volumes

as_listed : tiers (ask_of (wish true)) ≡ 1 ∷ 0 ∷ []
as_listed = refl

not_tiered : tiers (ask_of (wish false)) ≡ 0 ∷ 0 ∷ []
not_tiered = refl

-- an extension has none
extension_not_tiered : tiers (ask_more (data_set 50 2 [])) ≡ 0 ∷ 0 ∷ []
extension_not_tiered = refl

-- the volumes as they stand on the desk, and one that may be chosen
abbrev may : DeskState → ℕ → Type 0
may s position = MayChoose (map (view_of s (ask_of (wish true))) (candidates_of (wish true))) (want_of (ask_of (wish true))) position

-- on the empty desk both are primary, and VOL002 is the one
empty_second : may (desk_under (pair true)) 1
empty_second = record { view = view_of (desk_under (pair true)) (ask_of (wish true)) (of_group (codes "VOL002") (codes "SG2")); there = refl; listed = refl; first = refl }

empty_not_first : may (desk_under (pair true)) 0 → ⊥
empty_not_first chosen =
    let first = chosen.first in
    let there = chosen.there in absurd cc

-- with 50 tracks of VOL002 gone it is secondary, and VOL001 is the one
abbrev half : DeskState
half = desk_with (pair true) (data_set 50 1 (extent (codes "VOL002") 0 50 ∷ []))

half_first : may half 0
half_first = record { view = view_of half (ask_of (wish true)) (of_group (codes "VOL001") (codes "SG1")); there = refl; listed = refl; first = refl }

-- with 50 tracks of each gone both are secondary, and VOL002 is the one again
abbrev halves : DeskState
halves = desk_with (pair true) (data_set 50 2 (extent (codes "VOL002") 0 50 ∷ extent (codes "VOL001") 0 50 ∷ []))

halves_second : may halves 1
halves_second = record { view = view_of halves (ask_of (wish true)) (of_group (codes "VOL002") (codes "SG2")); there = refl; listed = refl; first = refl }

-- NOTCON is a status of storage groups alone

group_may : may_have (Group (codes "SG1")) NotCon ≡ true
group_may = refl

volume_may_not : may_have (Volume (codes "VOL001")) NotCon ≡ false
volume_may_not = refl
