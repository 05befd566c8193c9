-- ALLOC and EXTEND at worked examples.
use Rattle.std.proofs.Common.{◌≡◌, ℕ, true, false, List, [], ◌∷◌, refl}
use Rattle.std.specs.Prelude.{codes, Bool, Some, None, Ok, Err, is_some, map}
use Rattle.acs_tree.specs.Slates.{blank}
use Rattle.acs_tree.specs.declared.kind.Kind.TheVariants.{StorClas}
use Rattle.sms_construct.specs.Configuration.{Configuration}
use Rattle.sms_construct.specs.declared.eattr.Eattr.TheVariants.{No}
use Rattle.sms_construct.specs.declared.reply.Reply.TheVariants as replies
use Rattle.sms_construct.specs.declared.status.Status.{Status}
use Rattle.sms_construct.specs.declared.status.Status.TheVariants.{DisAll, DisNew, Enable, NotCon, QuiAll}
use Rattle.sms_construct.specs.declared.target.Target.TheVariants.{Group, Volume}
use Rattle.sms_construct.specs.declared.unit.Unit.TheVariants.{Cyl, Trk}
use Rattle.sms_construct.specs.declared.why_no_extend.WhyNoExtend.TheVariants as reasons
use Rattle.volume_lists.specs.Choice.{MayChoose}
use Rattle.volume_lists.specs.Listing.{listing_of}
use Rattle.volume_lists.specs.declared.lists.Listing.TheVariants.{Primary, Rejected, Secondary, Tertiary}
use Rattle.volume_lists.specs.declared.lists.Why.TheVariants as reasons_of
use Rattle.desk_law.specs.State.{DeskState, with_status}
use Rattle.desk_law.specs.Candidates.{grant_on, view_of, want_of}
use Rattle.desk_law.specs.Classification.{Classes}
use Rattle.desk_law.specs.Allocation.{Wish, alloc_case, candidates_of, new_set, space_case, wish_with}
use Rattle.desk_law.specs.Extension.{extend_case, first_volume, growth_on, last_volume, others_of}
use Rattle.sms_construct.specs.declared.stop.Stop.TheVariants as stops
use Rattle.desk_law.proofs.ExampleDecks.{ask, asks, asks_class, asks_nothing, data_set, deck_with, desk_under}
use Rattle.desk_law.proofs.ExampleDecks.{desk_with, extent, group, new_desk, one, piece, two, volume}

-- what routines gave: these classes and the storage group SG1
abbrev gave : List ℕ → Classes
gave dataclas = record { values = record { dataclas = dataclas; storclas = codes "SC1"; mgmtclas = []; groups = codes "SG1" ∷ [] }; written = blank; stop = stops.Done }

-- The lines, first to last.

no_configuration : alloc_case new_desk (codes "JOB1") (asks Trk 1 0) ≡ Err replies.NoConfig
no_configuration = refl

in_use : alloc_case (desk_with (one 100) (data_set 0 1 (extent (codes "VOL001") 0 10 ∷ []))) (codes "JOB1") (asks_class (codes "SC9")) ≡ Err replies.NameInUse
in_use = refl

not_managed : alloc_case (desk_under (one 100)) (codes "JOB1") asks_nothing ≡ Err (replies.NotManaged (record { lines = []; more = blank.more }))
not_managed = refl

unknown_class : alloc_case (desk_under (one 100)) (codes "JOB1") (asks_class (codes "SC9")) ≡ Err (replies.UnknownClass StorClas (codes "SC9") (record { lines = []; more = blank.more }))
unknown_class = refl

no_storage_group : alloc_case (desk_under (one 100)) (codes "JOB1") (asks_class (codes "SC1")) ≡ Err (replies.NoGroup (record { lines = []; more = blank.more }))
no_storage_group = refl

no_quantity : space_case asks_nothing (one 100) (gave []) ≡ Err (replies.NoQuantity (record { lines = []; more = blank.more }))
no_quantity = refl

-- the space and the number of volumes of the data class, where the request names none
of_data_class : space_case asks_nothing (one 100) (gave (codes "DC1")) ≡ Ok (record { config = one 100; classes = gave (codes "DC1"); space = record { unit = Cyl; primary = 2; secondary = 1 }; volumes = 2; eattr = No })
of_data_class = refl

-- the request's own space comes first
own_space : space_case (asks Trk 10 5) (one 100) (gave (codes "DC1")) ≡ Ok (record { config = one 100; classes = gave (codes "DC1"); space = record { unit = Trk; primary = 10; secondary = 5 }; volumes = 2; eattr = No })
own_space = refl

one_volume : space_case (asks Trk 10 5) (one 100) (gave []) ≡ Ok (record { config = one 100; classes = gave []; space = record { unit = Trk; primary = 10; secondary = 5 }; volumes = 1; eattr = No })
one_volume = refl

-- The choice.

abbrev wish : Configuration → ℕ → ℕ → Wish
wish config primary volumes = record { config = config; classes = gave []; space = record { unit = Trk; primary = primary; secondary = 0 }; volumes = volumes; eattr = No }

candidates : candidates_of (wish two 10 1) ≡ two.volumes
candidates = refl

-- 8,500 is not past 85 percent of 100 tracks: the first volume alone is primary
threshold_met : map (λ v. listing_of v (want_of (ask Trk 85 1))) (map (view_of (desk_under two) (ask Trk 85 1)) two.volumes) ≡ Primary ∷ Secondary ∷ []
threshold_met = refl

may_choose_first : MayChoose (map (view_of (desk_under two) (ask Trk 85 1)) two.volumes) (want_of (ask Trk 85 1)) 0
may_choose_first = record { view = view_of (desk_under two) (ask Trk 85 1) (volume (codes "VOL001") 100 Enable); there = refl; listed = refl; first = refl }

-- 8,600 is past it: both are secondary, and either may be chosen
past_threshold : map (λ v. listing_of v (want_of (ask Trk 86 1))) (map (view_of (desk_under two) (ask Trk 86 1)) two.volumes) ≡ Secondary ∷ Secondary ∷ []
past_threshold = refl

-- a storage group with fewer volumes than are asked for
tertiary : map (λ v. listing_of v (want_of (ask Trk 10 3))) (map (view_of (desk_under two) (ask Trk 10 1)) two.volumes) ≡ Tertiary ∷ Tertiary ∷ []
tertiary = refl

no_room : map (λ v. listing_of v (want_of (ask Trk 101 1))) (map (view_of (desk_under (one 100)) (ask Trk 101 1)) (one 100).volumes) ≡ Rejected reasons_of.Room ∷ []
no_room = refl

group_barred : map (λ v. listing_of v (want_of (ask Trk 1 1))) (map (view_of (with_status (desk_under (one 100)) (Group (codes "SG1")) DisNew) (ask Trk 1 1)) (one 100).volumes) ≡ Rejected reasons_of.Group ∷ []
group_barred = refl

volume_barred : map (λ v. listing_of v (want_of (ask Trk 1 1))) (map (view_of (with_status (desk_under (one 100)) (Volume (codes "VOL001")) DisAll) (ask Trk 1 1)) (one 100).volumes) ≡ Rejected reasons_of.Volume ∷ []
volume_barred = refl

-- The grant.

granted : grant_on (desk_under (one 100)) (volume (codes "VOL001") 100 Enable) (ask Trk 10 1) 0 ≡ Some (piece 0 10 ∷ [])
granted = refl

catalogued : new_set (asks Trk 10 5) (wish_with (asks Trk 10 5) (one 100) (gave []) (record { unit = Trk; primary = 10; secondary = 5 })) (volume (codes "VOL001") 100 Enable) (piece 0 10 ∷ [])
    ≡ data_set 5 1 (extent (codes "VOL001") 0 10 ∷ [])
catalogued = refl

-- a secondary quantity in cylinders is kept in tracks
in_cylinders : (new_set (asks Cyl 1 2) (wish_with (asks Cyl 1 2) (one 100) (gave []) (record { unit = Cyl; primary = 1; secondary = 2 })) (volume (codes "VOL001") 100 Enable) (piece 0 15 ∷ [])).secondary ≡ 30
in_cylinders = refl

-- behind 14 tracks a cylinder begins at the next multiple of 15
next_cylinder : grant_on (desk_with (one 31) (data_set 0 1 (extent (codes "VOL001") 0 14 ∷ []))) (volume (codes "VOL001") 31 Enable) (ask Cyl 15 1) 0 ≡ Some (piece 15 15 ∷ [])
next_cylinder = refl

-- five gaps of ten tracks: 50 are granted, 51 not
abbrev holes : DeskState
holes = desk_with (one 110) (data_set 0 1 (extent (codes "VOL001") 10 10 ∷ extent (codes "VOL001") 30 10 ∷ extent (codes "VOL001") 50 10 ∷ extent (codes "VOL001") 70 10 ∷ extent (codes "VOL001") 90 20 ∷ []))

five_gaps : grant_on holes (volume (codes "VOL001") 110 Enable) (ask Trk 50 1) 0 ≡ Some (piece 0 10 ∷ piece 20 10 ∷ piece 40 10 ∷ piece 60 10 ∷ piece 80 10 ∷ [])
five_gaps = refl

no_sixth : grant_on holes (volume (codes "VOL001") 110 Enable) (ask Trk 51 1) 0 ≡ None
no_sixth = refl

-- so the volume is a candidate for 50 tracks, and not for 51
five_pieces : listing_of (view_of holes (ask Trk 50 1) (volume (codes "VOL001") 110 Enable)) (want_of (ask Trk 50 1)) ≡ Secondary
five_pieces = refl

six_pieces : listing_of (view_of holes (ask Trk 51 1) (volume (codes "VOL001") 110 Enable)) (want_of (ask Trk 51 1)) ≡ Rejected reasons_of.Room
six_pieces = refl

-- EXTEND.

not_found : extend_case new_desk (codes "A.B") ≡ Err replies.NotFound
not_found = refl

no_secondary : extend_case (desk_with (one 100) (data_set 0 1 (extent (codes "VOL001") 0 10 ∷ []))) (codes "A.B") ≡ Err (replies.NoExtend reasons.Secondary)
no_secondary = refl

-- the deck of two volumes of 20 tracks with the threshold 100, the second quiesced
abbrev small : Configuration
small = deck_with 100 (volume (codes "VOL001") 20 Enable ∷ volume (codes "VOL002") 20 QuiAll ∷ [])

-- the last volume grants while it can
last_grants : growth_on (desk_with small (data_set 10 2 (extent (codes "VOL001") 0 10 ∷ []))) (data_set 10 2 (extent (codes "VOL001") 0 10 ∷ [])) (Some (volume (codes "VOL001") 20 Enable)) ≡ Some (extent (codes "VOL001") 10 10 ∷ [])
last_grants = refl

abbrev full_first : DeskState
full_first = desk_with small (data_set 10 2 (extent (codes "VOL001") 0 10 ∷ extent (codes "VOL001") 10 10 ∷ []))

last_is_full : growth_on full_first (data_set 10 2 (extent (codes "VOL001") 0 10 ∷ extent (codes "VOL001") 10 10 ∷ [])) (Some (volume (codes "VOL001") 20 Enable)) ≡ None
last_is_full = refl

-- then a further volume of the first one's storage group, on which the data set doesn't lie
further : others_of full_first (data_set 10 2 (extent (codes "VOL001") 0 10 ∷ extent (codes "VOL001") 10 10 ∷ [])) (first_volume full_first (extent (codes "VOL001") 0 10 ∷ [])) ≡ volume (codes "VOL002") 20 QuiAll ∷ []
further = refl

further_grants : grant_on full_first (volume (codes "VOL002") 20 QuiAll) (ask Trk 10 1) 0 ≡ Some (piece 0 10 ∷ [])
further_grants = refl

-- the last volume is that of the last extent
second_is_last : last_volume full_first (extent (codes "VOL001") 0 10 ∷ extent (codes "VOL002") 0 10 ∷ []) ≡ Some (volume (codes "VOL002") 20 QuiAll)
second_is_last = refl

-- sixteen extents on a volume are the most
abbrev sixteen : DeskState
sixteen = desk_with (one 100) (data_set 1 1 (map (λ n. extent (codes "VOL001") n 1) (0 ∷ 1 ∷ 2 ∷ 3 ∷ 4 ∷ 5 ∷ 6 ∷ 7 ∷ 8 ∷ 9 ∷ 10 ∷ 11 ∷ 12 ∷ 13 ∷ 14 ∷ 15 ∷ [])))

no_seventeenth : growth_on sixteen (data_set 1 1 (map (λ n. extent (codes "VOL001") n 1) (0 ∷ 1 ∷ 2 ∷ 3 ∷ 4 ∷ 5 ∷ 6 ∷ 7 ∷ 8 ∷ 9 ∷ 10 ∷ 11 ∷ 12 ∷ 13 ∷ 14 ∷ 15 ∷ []))) (Some (volume (codes "VOL001") 100 Enable)) ≡ None
no_seventeenth = refl

-- a storage group that takes no new data set still extends its own; one that is shut or not connected doesn't
abbrev grown : Status → DeskState
grown status = with_status (desk_with (one 100) (data_set 5 1 (extent (codes "VOL001") 0 10 ∷ []))) (Group (codes "SG1")) status

abbrev growth : DeskState → Bool
growth s = is_some (growth_on s (data_set 5 1 (extent (codes "VOL001") 0 10 ∷ [])) (Some (volume (codes "VOL001") 100 Enable)))

group_disabled_for_new : growth (grown DisNew) ≡ true
group_disabled_for_new = refl

group_quiesced : growth (grown QuiAll) ≡ true
group_quiesced = refl

group_disabled : growth (grown DisAll) ≡ false
group_disabled = refl

group_not_connected : growth (grown NotCon) ≡ false
group_not_connected = refl

volume_disabled : growth (with_status (desk_with (one 100) (data_set 5 1 (extent (codes "VOL001") 0 10 ∷ []))) (Volume (codes "VOL001")) DisAll) ≡ false
volume_disabled = refl

volume_disabled_for_new : growth (with_status (desk_with (one 100) (data_set 5 1 (extent (codes "VOL001") 0 10 ∷ []))) (Volume (codes "VOL001")) DisNew) ≡ true
volume_disabled_for_new = refl

-- The gaps 10 tracks at 0, 20 at 15, 20 at 40 and 15 at 65 of 80 tracks.
abbrev uneven : DeskState
uneven = desk_with (one 80) (data_set 0 1 (extent (codes "VOL001") 10 5 ∷ extent (codes "VOL001") 35 5 ∷ extent (codes "VOL001") 60 5 ∷ []))

-- the lowest gap that holds the whole need
lowest_whole : grant_on uneven (volume (codes "VOL001") 80 Enable) (ask Trk 15 1) 0 ≡ Some (piece 15 15 ∷ [])
lowest_whole = refl

-- else the longest first, of equal ones the lower, and the last one cut
longest_first_cut : grant_on uneven (volume (codes "VOL001") 80 Enable) (ask Trk 25 1) 0 ≡ Some (piece 15 20 ∷ piece 40 5 ∷ [])
longest_first_cut = refl

all_four : grant_on uneven (volume (codes "VOL001") 80 Enable) (ask Trk 60 1) 0 ≡ Some (piece 15 20 ∷ piece 40 20 ∷ piece 65 15 ∷ piece 0 5 ∷ [])
all_four = refl

too_little : grant_on uneven (volume (codes "VOL001") 80 Enable) (ask Trk 66 1) 0 ≡ None
too_little = refl

-- a data set with 14 extents there may get two pieces
two_pieces : grant_on uneven (volume (codes "VOL001") 80 Enable) (ask Trk 40 1) 14 ≡ Some (piece 15 20 ∷ piece 40 20 ∷ [])
two_pieces = refl

no_third : grant_on uneven (volume (codes "VOL001") 80 Enable) (ask Trk 41 1) 14 ≡ None
no_third = refl

-- a gap of 29 tracks at 46 holds one cylinder, at 60
cylinder_inside : grant_on (desk_with (one 75) (data_set 0 1 (extent (codes "VOL001") 0 46 ∷ []))) (volume (codes "VOL001") 75 Enable) (ask Cyl 15 1) 0 ≡ Some (piece 60 15 ∷ [])
cylinder_inside = refl

-- an overflow group is secondary
abbrev spill : Configuration
spill = record { deck = []; system = None; sysplex = None; data_classes = []; storage_classes = []; management_classes = []; groups = group (codes "SG1") 85 true ∷ []; volumes = (one 100).volumes; routines = (one 100).routines }

overflow : map (λ v. listing_of v (want_of (ask Trk 10 1))) (map (view_of (desk_under spill) (ask Trk 10 1)) spill.volumes) ≡ Secondary ∷ []
overflow = refl

-- tracks that are granted already count for the threshold
granted_before : map (λ v. listing_of v (want_of (ask Trk 10 1))) (map (view_of (desk_with (one 100) (data_set 0 1 (extent (codes "VOL001") 0 80 ∷ []))) (ask Trk 10 1)) (one 100).volumes) ≡ Secondary ∷ []
granted_before = refl

-- a volume of a storage group that isn't listed is no candidate
not_listed : candidates_of (record (wish two 10 1) { classes = record { values = record { dataclas = []; storclas = codes "SC1"; mgmtclas = []; groups = codes "SG2" ∷ [] }; written = blank; stop = stops.Done } }) ≡ []
not_listed = refl

-- the request's own number of volumes comes before that of the data class
own_count : space_case (record (asks Trk 10 5) { volumes = Some 7 }) (one 100) (gave (codes "DC1")) ≡ Ok (record { config = one 100; classes = gave (codes "DC1"); space = record { unit = Trk; primary = 10; secondary = 5 }; volumes = 7; eattr = No })
own_count = refl
