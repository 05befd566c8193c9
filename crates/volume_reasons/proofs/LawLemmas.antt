-- What the law says of candidates as they are told.
use Rattle.std.proofs.Common.{◌≡◌, ◌<◌, ◌+◌, ◌*◌, ℕ, Bool, true, false, List, refl, sym, ◌∙◌, subst, inl, inr, arith}
use Rattle.std.specs.Prelude.{◌&&◌, not, nat_le, nat_lt, None, Some, Result, Ok, Err, MatchResult, slice_get, if◌then◌else◌}
use Rattle.std.specs.List.{list_any}
use Rattle.std.proofs.lemmas.Bool.Decides.{nat_tests}
use Rattle.desk_law.specs.Allocation.{AllocRule, GrantRule, Wish, alloc_case}
use Rattle.desk_law.specs.Classification.{trace_of}
use Rattle.desk_law.specs.Replies.{Leaves}
use Rattle.desk_law.specs.State.{DeskState}
use Rattle.sms_construct.specs.declared.alloc.Alloc.{Alloc}
use Rattle.sms_construct.specs.declared.reply.Reply.{Reply}
use Rattle.sms_construct.specs.declared.reply.Reply.TheVariants as replies
use Rattle.sms_construct.specs.declared.trace.Trace.{Trace}
use Rattle.volume_lists.specs.Choice.{MayChoose, is_earlier, is_rejected}
use Rattle.volume_lists.specs.Listing.{bars_group, bars_volume, is_enabled, is_within_threshold, listing_of, suits_primary}
use Rattle.volume_lists.specs.declared.lists.Listing.{Listing}
use Rattle.volume_lists.specs.declared.lists.Listing.TheVariants.{Primary, Secondary, Tertiary, Rejected}
use Rattle.volume_lists.specs.declared.lists.Why.TheVariants.{Group, Volume, Room}
use Rattle.volume_lists.specs.declared.view.VolView.{VolView}
use Rattle.volume_lists.specs.declared.view.Want.{Want}
use Rattle.sms_construct.specs.declared.status.Status.{Status}
use Rattle.sms_construct.specs.declared.status.Status.TheVariants as statuses
use Rattle.volume_reasons.specs.EmptyDesk.{views_of, wanted_by}
use Rattle.volume_reasons.specs.Reasons.{HoldsOf, hindrance_of, may_be_chosen, none_is_left, reason_in, reason_of}
use Rattle.volume_reasons.specs.declared.reason.Reason.{Reason}
use Rattle.volume_reasons.specs.declared.reason.Reason.TheVariants as reasons
use Rattle.volume_reasons.proofs.TurnLemmas.{all-off}

-- Which may be chosen.

neither : (b c : Bool) → (not b && not c) ≡ true → (b ≡ false) × (c ≡ false)
neither true c is = absurd cc
neither false true is = absurd cc
neither false false is = (refl, refl)

pub may-lawful : (views : List VolView) (want : Want) (position : ℕ) (view : VolView) → slice_get views position ≡ Some view → may_be_chosen views want view ≡ true → MayChoose views want position
may-lawful views want position view there may =
    let both = neither (is_rejected (listing_of view want)) (list_any (λ other. is_earlier want other view) views) may in
    record { view = view; there = there; listed = both.0; first = both.1 }

may-parts : (views : List VolView) (want : Want) (view : VolView) → is_rejected (listing_of view want) ≡ false → list_any (λ other. is_earlier want other view) views ≡ false → may_be_chosen views want view ≡ true
may-parts views want view listed first = rw (listed, first) refl

pub may-told : (views : List VolView) (want : Want) (position : ℕ) (view : VolView) → slice_get views position ≡ Some view → MayChoose views want position → may_be_chosen views want view ≡ true
may-told views want position view there may =
    let now : Some may.view ≡ Some view = sym may.there ∙ there in
    let same : may.view ≡ view = cc in
    subst (λ (v : VolView). may_be_chosen views want v ≡ true) same (may-parts views want may.view may.listed may.first)

-- Which answer comes.

granted-by : (s : DeskState) (job : List ℕ) (alloc : Alloc) (wish : Wish) (reply : Reply) (after : DeskState) → alloc_case s job alloc ≡ Ok wish → AllocRule s job alloc reply after → GrantRule s alloc wish reply after
granted-by s job alloc wish reply after case rule =
    subst (λ (made : Result Wish Reply). MatchResult made (λ w. GrantRule s alloc w reply after) (λ answer. Leaves s answer reply after)) case rule

none-lawful : (s : DeskState) (alloc : Alloc) (wish : Wish) (reply : Reply) (after : DeskState) → GrantRule s alloc wish reply after → none_is_left (views_of s wish) (wanted_by wish) ≡ true → reply ≡ replies.NoVolume (trace_of wish.classes)
none-lawful s alloc wish reply after (inl rejected) none = let leaves = rejected.1 in leaves.reply_is
none-lawful s alloc wish reply after (inr chosen) none =
    let may = chosen.may in
    let some : none_is_left (views_of s wish) (wanted_by wish) ≡ false = all-off (λ (view : VolView). is_rejected (listing_of view (wanted_by wish))) (views_of s wish) chosen.position may.view may.there may.listed in
    absurd (cc (none, some))

none-told : (s : DeskState) (alloc : Alloc) (wish : Wish) (trace : Trace) (after : DeskState) → GrantRule s alloc wish (replies.NoVolume trace) after → none_is_left (views_of s wish) (wanted_by wish) ≡ true
none-told s alloc wish trace after (inl rejected) = rejected.0
none-told s alloc wish trace after (inr chosen) =
    let does = chosen.does in
    let makes = does.makes in absurd (cc makes.reply_is)

pub answer-lawful : (s : DeskState) (job : List ℕ) (alloc : Alloc) (wish : Wish) (reply : Reply) (after : DeskState) → alloc_case s job alloc ≡ Ok wish → AllocRule s job alloc reply after
    → none_is_left (views_of s wish) (wanted_by wish) ≡ true → reply ≡ replies.NoVolume (trace_of wish.classes)
answer-lawful s job alloc wish reply after case rule none = none-lawful s alloc wish reply after (granted-by s job alloc wish reply after case rule) none

pub answer-told : (s : DeskState) (job : List ℕ) (alloc : Alloc) (wish : Wish) (trace : Trace) (after : DeskState) → alloc_case s job alloc ≡ Ok wish → AllocRule s job alloc (replies.NoVolume trace) after
    → none_is_left (views_of s wish) (wanted_by wish) ≡ true
answer-told s job alloc wish trace after case rule = none-told s alloc wish trace after (granted-by s job alloc wish (replies.NoVolume trace) after case rule)

pub quantity-lawful : (s : DeskState) (job : List ℕ) (alloc : Alloc) (trace : Trace) (reply : Reply) (after : DeskState) → alloc_case s job alloc ≡ Err (replies.NoQuantity trace) → AllocRule s job alloc reply after
    → reply ≡ replies.NoQuantity trace
quantity-lawful s job alloc trace reply after case rule =
    let leaves : Leaves s (replies.NoQuantity trace) reply after =
    subst (λ (made : Result Wish Reply). MatchResult made (λ w. GrantRule s alloc w reply after) (λ answer. Leaves s answer reply after)) case rule in
    leaves.reply_is

-- Which reasons hold.

barred-group : (status : Status) → bars_group status ≡ true → is_enabled status ≡ false
barred-group statuses.Enable is = absurd cc
barred-group statuses.NotCon is = refl
barred-group statuses.DisAll is = refl
barred-group statuses.DisNew is = refl
barred-group statuses.QuiAll is = refl
barred-group statuses.QuiNew is = refl

barred-volume : (status : Status) → bars_volume status ≡ true → is_enabled status ≡ false
barred-volume statuses.Enable is = absurd cc
barred-volume statuses.NotCon is = refl
barred-volume statuses.DisAll is = refl
barred-volume statuses.DisNew is = refl
barred-volume statuses.QuiAll is = refl
barred-volume statuses.QuiNew is = refl

-- the reason of a volume in the list of these tests
abbrev listed : Bool → Bool → Bool → Bool → Bool → Listing
listed group volume fits few suits =
    if group then Rejected Group else (if volume then Rejected Volume else (if not fits then Rejected Room else (if few then Tertiary else (if suits then Primary else Secondary))))

past : (a b : ℕ) → nat_le a b ≡ false → b < a
past a b off = grind (arith, nat_tests, off)

below : (a b : ℕ) → nat_lt a b ≡ true → a < b
below a b is = grind (arith, nat_tests, is)

hindered : (view : VolView) (want : Want) (group volume overflow within : Bool) → is_enabled view.group_status ≡ group → is_enabled view.status ≡ volume → view.overflow ≡ overflow → is_within_threshold view want ≡ within
    → (group && (volume && (not overflow && within))) ≡ false
    → HoldsOf (if not group then reasons.GroupStatus else (if not volume then reasons.VolumeStatus else (if overflow then reasons.Overflow else reasons.Threshold))) view want
hindered view want false volume overflow within g v o w off = g
hindered view want true false overflow within g v o w off = v
hindered view want true true true within g v o w off = o
hindered view want true true false true g v o w off = absurd cc
hindered view want true true false false g v o w off = past ((view.granted + want.need) * 100) (view.high * view.capacity) w

-- the reason why a volume stands in this list holds
abbrev ReasonHolds : Listing → VolView → Want → Type 0
ReasonHolds list view want = (reason : Reason) → reason_in list view ≡ Some reason → HoldsOf reason view want

one-holds : (view : VolView) (want : Want) (one reason : Reason) → Some one ≡ Some reason → HoldsOf one view want → HoldsOf reason view want
one-holds view want one reason is holds =
    let same : one ≡ reason = cc in subst (λ (r : Reason). HoldsOf r view want) same holds

tested : (view : VolView) (want : Want) (group volume fits few suits : Bool) → bars_group view.group_status ≡ group → bars_volume view.status ≡ volume → view.fits ≡ fits → nat_lt view.group_volumes want.volumes ≡ few
    → suits_primary view want ≡ suits → ReasonHolds (listed group volume fits few suits) view want
tested view want true volume fits few suits g v f w s = λ reason is. one-holds view want reasons.GroupStatus reason is (barred-group view.group_status g)
tested view want false true fits few suits g v f w s = λ reason is. one-holds view want reasons.VolumeStatus reason is (barred-volume view.status v)
tested view want false false false few suits g v f w s = λ reason is. one-holds view want reasons.NoRoom reason is f
tested view want false false true true suits g v f w s = λ reason is. one-holds view want reasons.FewVolumes reason is (below view.group_volumes want.volumes w)
tested view want false false true false true g v f w s = λ reason is. absurd cc
tested view want false false true false false g v f w s = λ reason is.
    one-holds view want (hindrance_of view) reason is
    (hindered view want (is_enabled view.group_status) (is_enabled view.status) view.overflow (is_within_threshold view want) refl refl refl refl s)

pub reason-holds : (view : VolView) (want : Want) (reason : Reason) → reason_of want view ≡ Some reason → HoldsOf reason view want
reason-holds view want =
    tested view want (bars_group view.group_status) (bars_volume view.status) view.fits (nat_lt view.group_volumes want.volumes) (suits_primary view want) refl refl refl refl refl

unreasoned : (list : Listing) (view : VolView) → reason_in list view ≡ None → list ≡ Primary
unreasoned Primary view none = refl
unreasoned Secondary view none = absurd cc
unreasoned Tertiary view none = absurd cc
unreasoned (Rejected Group) view none = absurd cc
unreasoned (Rejected Volume) view none = absurd cc
unreasoned (Rejected Room) view none = absurd cc

pub reason-none : (view : VolView) (want : Want) → reason_of want view ≡ None → listing_of view want ≡ Primary
reason-none view want none = unreasoned (listing_of view want) view none
