-- Decisions that are by the rule of EXTEND.
use Rattle.std.proofs.Common.{◌≡◌, ℕ, zero, suc, ◌+◌, ◌-◌, Bool, true, false, List, [], ◌∷◌, ◌++◌, length, get_or, refl}
use Rattle.std.proofs.Common.{sym, ap, ◌∙◌, subst, arith, inl, inr}
use Rattle.std.specs.Prelude.{◌==◌, ◌||◌, ◌&&◌, Option, None, Some, MatchOption, MatchBool, bytes_eq, filter, nat_lt}
use Rattle.std.specs.Prelude.{not, option_map, slice_get}
use Rattle.std.proofs.lemmas.Option.{get_or_from_slice_get, slice_get_within}
use Rattle.sms_construct.specs.declared.data_set.DataSet.{DataSet}
use Rattle.sms_construct.specs.declared.extent.Extent.{Extent}
use Rattle.sms_construct.specs.declared.reply.Reply.TheVariants as replies
use Rattle.sms_construct.specs.declared.volume.VolumeDef.{VolumeDef}
use Rattle.sms_construct.specs.declared.why_no_extend.WhyNoExtend.TheVariants as reasons
use Rattle.desk_law.specs.State.{DeskState, set_named, with_set}
use Rattle.desk_law.specs.Candidates.{Ask, Chosen}
use Rattle.desk_law.specs.Extension.{ExtendRule, Extends, ExtendsOn, ask_more, bars_growth, extended, first_volume}
use Rattle.desk_law.specs.Extension.{growth_on, last_volume, others_of}
use Rattle.desk_law.specs.Extents.{extents_at, is_among, is_used, volumes_after, volumes_of}
use Rattle.desk_law.specs.Replies.{Leaves}
use Rattle.desk_law.specs.Statuses.{bars_group_growth, bars_volume_growth, group_status, volume_status}
use Rattle.desk_law.specs.Volumes.{groups_in, volume_named, volumes_in}
use Rattle.desk_law.proofs.ByteLemmas.{same-bytes}
use Rattle.desk_law.proofs.PlaceLemmas.{each-at}
use Rattle.desk_law.proofs.SetLemmas.{found-extents}
use Rattle.sms_volumes.specs.Changing.{running_at}
use Rattle.sms_volumes.specs.Holding.{AreVolumesOf, IsGroupOf, IsVolumeOf}
use Rattle.sms_volumes.specs.Viewing.{running_named}
use Rattle.sms_volumes.specs.declared.active_group.ActiveGroup.{ActiveGroup}
use Rattle.sms_volumes.specs.declared.active_volume.ActiveVolume.{ActiveVolume}
use Rattle.sms_volumes.specs.declared.active_volumes.ActiveVolumes.{ActiveVolumes}
use Rattle.sms_volumes.proofs.ShowLemmas.{named-is}
use Rattle.sms_volumes.proofs.ViewLemmas.{name-of-found}
use Rattle.desk_state.specs.Answering.{Answers}
use Rattle.desk_state.specs.Catalog.{set_in}
use Rattle.desk_state.specs.Deeds.{HasMore}
use Rattle.desk_state.specs.Inner.Granting.{IsGrantAmong, IsGranted}
use Rattle.desk_state.specs.Inner.Growing.{Grows, IsGrowable, added_of}
use Rattle.desk_state.specs.Standing.{IsSomeState}
use Rattle.desk_state.specs.declared.deed.Deed.TheVariants as deeds
use Rattle.desk_state.specs.declared.grant.Grant.{Grant}
use Rattle.desk_state.specs.declared.running.Running.{Running}
use Rattle.desk_state.proofs.AnswerLemmas.{quiet-answers}
use Rattle.desk_state.proofs.FewLemmas.{found-lawful}

-- Which volumes there are.

-- the volume of a serial stands at its place
pub named-at : (s : DeskState) (running : ActiveVolumes) (volser : List ℕ) (place : ℕ) → AreVolumesOf s running → running_named volser running.volumes.items ≡ slice_get running.volumes.items place → volume_named s volser ≡ running_at place running
named-at s running volser place are found = named-is s running volser are ∙ ap (option_map (λ (v : ActiveVolume). v.volume)) found

pub named-none : (s : DeskState) (running : ActiveVolumes) (volser : List ℕ) → AreVolumesOf s running → running_named volser running.volumes.items ≡ None → volume_named s volser ≡ None
named-none s running volser are none = named-is s running volser are ∙ ap (option_map (λ (v : ActiveVolume). v.volume)) none

last-of : (s : DeskState) (es : List Extent) (k : ℕ) (e : Extent) → k + 1 ≡ length es → slice_get es k ≡ Some e → last_volume s es ≡ volume_named s e.volser
last-of s [] k e at there = absurd (omega (arith, at))
last-of s (x ∷ []) zero e at there =
    let same : x ≡ e = cc in ap (λ (y : Extent). volume_named s y.volser) same
last-of s (x ∷ []) (suc k) e at there = absurd (omega (arith, at))
last-of s (x ∷ y ∷ es) zero e at there = absurd (omega (arith, at))
last-of s (x ∷ y ∷ es) (suc k) e at there = last-of s (y ∷ es) k e (omega (arith, at)) there

-- the volume of the last extent
pub last-some : (s : DeskState) (es : List Extent) (e : Extent) → slice_get es (length es - 1) ≡ Some e → last_volume s es ≡ volume_named s e.volser
last-some s es e there =
    let within = slice_get_within es (length es - 1) e there in last-of s es (length es - 1) e (omega (arith, within)) there

-- the volume of the first extent
pub first-some : (s : DeskState) (es : List Extent) (e : Extent) → slice_get es 0 ≡ Some e → first_volume s es ≡ volume_named s e.volser
first-some s [] e there = absurd cc
first-some s (x ∷ es) e there =
    let same : x ≡ e = cc in ap (λ (y : Extent). volume_named s y.volser) same

-- the place of the last volume
pub last-at : (s : DeskState) (running : ActiveVolumes) (es : List Extent) (e : Extent) (o : Option ℕ) → AreVolumesOf s running → slice_get es (length es - 1) ≡ Some e
    → MatchOption o (running_named e.volser running.volumes.items ≡ None) (λ place. running_named e.volser running.volumes.items ≡ slice_get running.volumes.items place)
    → MatchOption o (last_volume s es ≡ None) (λ place. last_volume s es ≡ running_at place running)
last-at s running es e None are there none = last-some s es e there ∙ named-none s running e.volser are none
last-at s running es e (Some place) are there found = last-some s es e there ∙ named-at s running e.volser place are found

-- the storage group of the first volume
pub first-at : (s : DeskState) (running : ActiveVolumes) (es : List Extent) (e : Extent) (place : ℕ) (v : ActiveVolume) → AreVolumesOf s running → slice_get es 0 ≡ Some e
    → running_named e.volser running.volumes.items ≡ slice_get running.volumes.items place → slice_get running.volumes.items place ≡ Some v
    → Some v.volume.group ≡ option_map (λ (d : VolumeDef). d.group) (first_volume s es)
first-at s running es e place v are there found at =
    sym (ap (option_map (λ (d : VolumeDef). d.group)) (first-some s es e there ∙ (named-at s running e.volser place are found ∙ ap (option_map (λ (x : ActiveVolume). x.volume)) at)))

pub first-nowhere : (s : DeskState) (running : ActiveVolumes) (es : List Extent) (e : Extent) → AreVolumesOf s running → slice_get es 0 ≡ Some e → running_named e.volser running.volumes.items ≡ None
    → None ≡ option_map (λ (d : VolumeDef). d.group) (first_volume s es)
first-nowhere s running es e are there none = sym (ap (option_map (λ (d : VolumeDef). d.group)) (first-some s es e there ∙ named-none s running e.volser are none))

-- a volume that was not seen is among those of the extents where one lies on it
among-at : (v : List ℕ) (seen : List (List ℕ)) (e : Extent) (es : List Extent) (b c : Bool) → is_among e.volser seen ≡ b → bytes_eq e.volser v ≡ c → is_among v seen ≡ false
    → ((others : List (List ℕ)) → is_among v others ≡ false → is_among v (volumes_after others es) ≡ is_used v es)
    → is_among v (volumes_after seen (e ∷ es)) ≡ is_used v (e ∷ es)
among-at v seen e es true true is on off rest =
    let now : is_among v seen ≡ true = subst (λ n. is_among n seen ≡ true) (same-bytes e.volser v on) is in
    let bad : true ≡ false = sym now ∙ off in absurd cc
among-at v seen e es true false is on off rest = rw (is, on) (rest seen off)
among-at v seen e es false true is on off rest = rw (is, on) refl
among-at v seen e es false false is on off rest =
    let next : is_among v (e.volser ∷ seen) ≡ false = rw (on, off) refl in
    rw (is, on) (rest (e.volser ∷ seen) next)

pub among-used : (v : List ℕ) (seen : List (List ℕ)) (es : List Extent) → is_among v seen ≡ false → is_among v (volumes_after seen es) ≡ is_used v es
among-used v seen [] off = refl
among-used v seen (e ∷ es) off = among-at v seen e es _ _ refl refl off (λ others none. among-used v others es none)

others-at : (group : List ℕ) (es : List Extent) (d : VolumeDef) (volumes : List VolumeDef) (b c : Bool) → bytes_eq d.group group ≡ b → is_used d.volser es ≡ c
    → filter (λ (v : VolumeDef). bytes_eq v.group group && not (is_used v.volser es)) volumes
    ≡ filter (λ (v : VolumeDef). not (is_among v.volser (volumes_of es))) (filter (λ (v : VolumeDef). bytes_eq v.group group) volumes)
    → filter (λ (v : VolumeDef). bytes_eq v.group group && not (is_used v.volser es)) (d ∷ volumes)
    ≡ filter (λ (v : VolumeDef). not (is_among v.volser (volumes_of es))) (filter (λ (v : VolumeDef). bytes_eq v.group group) (d ∷ volumes))
others-at group es d volumes false c in_group used rest = rw in_group rest
others-at group es d volumes true true in_group used rest =
    let among : is_among d.volser (volumes_after [] es) ≡ true = among-used d.volser [] es refl ∙ used in
    rw (in_group, used, among) rest
others-at group es d volumes true false in_group used rest =
    let among : is_among d.volser (volumes_after [] es) ≡ false = among-used d.volser [] es refl ∙ used in
    rw (in_group, used, among) (ap (λ (l : List VolumeDef). d ∷ l) rest)

-- the other volumes of a storage group
pub others-are : (group : List ℕ) (es : List Extent) (volumes : List VolumeDef)
    → filter (λ (v : VolumeDef). bytes_eq v.group group && not (is_used v.volser es)) volumes
    ≡ filter (λ (v : VolumeDef). not (is_among v.volser (volumes_of es))) (filter (λ (v : VolumeDef). bytes_eq v.group group) volumes)
others-are group es [] = refl
others-are group es (d ∷ volumes) = others-at group es d volumes _ _ refl refl (others-are group es volumes)

-- What is granted is by the rule.

grown-at : (s : DeskState) (set : DataSet) (grant : Grant) (o : Option (List Extent)) (b : Bool)
    → MatchOption o (MatchBool b (IsGrantAmong s (others_of s set (first_volume s set.extents)) (ask_more set) (Some grant)) (◌≡◌ {A = Option Grant} (Some grant) None)) (λ added. ◌≡◌ {A = Option (List Extent)} (Some (added_of grant)) (Some added))
    → MatchOption o
    (MatchBool b
    (Chosen s (ask_more set) (others_of s set (first_volume s set.extents)) (Leaves s (replies.NoExtend reasons.Room) (replies.Extended (added_of grant)) (with_set s (extended set (added_of grant))))
    (λ volume. ExtendsOn s set volume (replies.Extended (added_of grant)) (with_set s (extended set (added_of grant)))))
    (Leaves s (replies.NoExtend reasons.Room) (replies.Extended (added_of grant)) (with_set s (extended set (added_of grant)))))
    (λ added. Extends s set added (replies.Extended (added_of grant)) (with_set s (extended set (added_of grant))))
grown-at s set grant None true chosen =
    let of : VolumeDef → List Extent = λ (v : VolumeDef). extents_at v.volser grant.pieces.items in
    inr (record {
      position = chosen.position;
      may = chosen.may;
      volume = chosen.volume;
      there = chosen.there;
      does = record {
        pieces = grant.pieces.items;
        granted = chosen.does.rule;
        extends = record {
          reply_is = ap (λ (v : VolumeDef). replies.Extended (of v)) chosen.does.same;
          after_is = ap (λ (v : VolumeDef). with_set s (extended set (of v))) chosen.does.same;
        };
      };
    })
grown-at s set grant None false none = absurd cc
grown-at s set grant (Some added) b is =
    let same : added_of grant ≡ added = cc in
    record { reply_is = ap replies.Extended same; after_is = ap (λ (l : List Extent). with_set s (extended set l)) same }

-- a data set has what it had and what is granted
has-grown : (s : DeskState) (running : Running) (dsn : List ℕ) (set : DataSet) (grant : Grant) → set_named dsn s.sets ≡ Some set → IsGranted running grant
    → HasMore s.sets running (extended set (added_of grant)) grant.place grant.pieces.items
has-grown s running dsn set grant found granted =
    let there = granted.ready.at in
    let two : Some granted.ready.volume.volume ≡ Some grant.volume = sym (ap (option_map (λ (v : ActiveVolume). v.volume)) there) ∙ granted.named in
    let same : grant.volume ≡ granted.ready.volume.volume = cc in
    record {
      volume = granted.ready.volume;
      at = there;
      extents = ap (λ (v : VolumeDef). set.extents ++ extents_at v.volser grant.pieces.items) same
          ∙ sym (ap (λ (l : List Extent). l ++ extents_at granted.ready.volume.volume.volser grant.pieces.items) (found-extents dsn s.sets set found));
    }

pub extend-grown : (s : DeskState) (running : Running) (dsn : List ℕ) (set : DataSet) (grant : Grant) → set_named dsn s.sets ≡ Some set → (set.secondary == 0) ≡ false → IsGranted running grant → Grows s set (Some grant)
    → Answers s running (ExtendRule s dsn) (record { reply = replies.Extended (added_of grant); deed = deeds.Get (extended set (added_of grant)) grant.place grant.pieces })
extend-grown s running dsn set grant found some granted grows = record {
  rule = rw (found, some) (grown-at s set grant (growth_on s set (last_volume s set.extents)) (nat_lt (length (volumes_of set.extents)) set.volumes) grows);
  tells = refl;
  fits = has-grown s running dsn set grant found granted;
}

ungrown-at : (s : DeskState) (set : DataSet) (o : Option (List Extent)) (b : Bool)
    → MatchOption o (MatchBool b (IsGrantAmong s (others_of s set (first_volume s set.extents)) (ask_more set) None) (◌≡◌ {A = Option Grant} None None)) (λ added. ◌≡◌ {A = Option (List Extent)} None (Some added))
    → MatchOption o
    (MatchBool b
    (Chosen s (ask_more set) (others_of s set (first_volume s set.extents)) (Leaves s (replies.NoExtend reasons.Room) (replies.NoExtend reasons.Room) s)
    (λ volume. ExtendsOn s set volume (replies.NoExtend reasons.Room) s))
    (Leaves s (replies.NoExtend reasons.Room) (replies.NoExtend reasons.Room) s))
    (λ added. Extends s set added (replies.NoExtend reasons.Room) s)
ungrown-at s set None true rejected = inl (rejected, record { reply_is = refl; after_is = refl })
ungrown-at s set None false none = record { reply_is = refl; after_is = refl }
ungrown-at s set (Some added) b is = absurd cc

pub extend-ungrown : (s : DeskState) (running : Running) (dsn : List ℕ) (set : DataSet) → set_named dsn s.sets ≡ Some set → (set.secondary == 0) ≡ false → Grows s set None
    → Answers s running (ExtendRule s dsn) (record { reply = replies.NoExtend reasons.Room; deed = deeds.Nothing })
extend-ungrown s running dsn set found some grows =
    quiet-answers s running (ExtendRule s dsn) (replies.NoExtend reasons.Room)
    (rw (found, some) (ungrown-at s set (growth_on s set (last_volume s set.extents)) (nat_lt (length (volumes_of set.extents)) set.volumes) grows)) refl

-- The present statuses.

pub bars-at : (s : DeskState) (running : ActiveVolumes) (place : ℕ) (volume v : ActiveVolume) (g : ActiveGroup) → AreVolumesOf s running → slice_get running.volumes.items place ≡ Some volume
    → v ≡ get_or running.volumes.items place v → g ≡ get_or running.groups.items v.group g → (bars_group_growth g.status || bars_volume_growth v.status) ≡ bars_growth s volume.volume
bars-at s running place volume v g are there read group =
    let same : v ≡ volume = read ∙ get_or_from_slice_get running.volumes.items place volume v there in
    let own = each-at (IsVolumeOf s running.groups.items) running.volumes.items place volume are.each_volume there in
    let found : slice_get running.groups.items volume.group ≡ Some own.group.group = own.group.there in
    let at : g ≡ get_or running.groups.items volume.group g = group ∙ ap (λ (x : ActiveVolume). get_or running.groups.items x.group g) same in
    let ours : g ≡ own.group.group = at ∙ get_or_from_slice_get running.groups.items volume.group own.group.group g found in
    let is = each-at (IsGroupOf s) running.groups.items volume.group own.group.group are.each_group found in
    let name : own.group.group.group.name ≡ volume.volume.group = name-of-found volume.volume.group (groups_in s.active) own.group.group.group own.group.named in
    let status : g.status ≡ group_status s volume.volume.group = ap (λ (x : ActiveGroup). x.status) ours ∙ (is.status ∙ ap (group_status s) name) in
    let own_status : v.status ≡ volume_status s volume.volume.volser = ap (λ (x : ActiveVolume). x.status) same ∙ own.status in
    rw (status, own_status) refl

-- A further volume.

others-of : (s : DeskState) (set : DataSet) (group : List ℕ) (o : Option VolumeDef) → Some group ≡ option_map (λ (d : VolumeDef). d.group) o
    → filter (λ (v : VolumeDef). bytes_eq v.group group && not (is_used v.volser set.extents)) (volumes_in s.active) ≡ others_of s set o
others-of s set group None is = absurd cc
others-of s set group (Some first) is =
    let same : group ≡ first.group = cc in
    ap (λ (g : List ℕ). filter (λ (v : VolumeDef). bytes_eq v.group g && not (is_used v.volser set.extents)) (volumes_in s.active)) same ∙ others-are first.group set.extents (volumes_in s.active)

pub beside-granted : (s : DeskState) (set : DataSet) (group : List ℕ) (es : List Extent) (ask : Ask) (found : Option Grant) → es ≡ set.extents → ask ≡ ask_more set
    → Some group ≡ option_map (λ (d : VolumeDef). d.group) (first_volume s es)
    → IsGrantAmong s (filter (λ (v : VolumeDef). bytes_eq v.group group && not (is_used v.volser es)) (volumes_in s.active)) ask found
    → IsGrantAmong s (others_of s set (first_volume s set.extents)) (ask_more set) found
beside-granted s set group es ask found same asks first among =
    let head : Some group ≡ option_map (λ (d : VolumeDef). d.group) (first_volume s set.extents) = subst (λ (l : List Extent). Some group ≡ option_map (λ (d : VolumeDef). d.group) (first_volume s l)) same first in
    subst (λ (l : List VolumeDef). IsGrantAmong s l (ask_more set) found) (others-of s set group (first_volume s set.extents) head)
    (subst (λ (a : Ask). IsGrantAmong s (filter (λ (v : VolumeDef). bytes_eq v.group group && not (is_used v.volser set.extents)) (volumes_in s.active)) a found) asks
    (subst (λ (l : List Extent). IsGrantAmong s (filter (λ (v : VolumeDef). bytes_eq v.group group && not (is_used v.volser l)) (volumes_in s.active)) ask found) same among))

-- what the catalog finds may grow
pub found-growable : (running : Running) → IsSomeState running → (dsn : List ℕ) (set : DataSet) → set_in dsn running.catalog.sets ≡ Some set → IsGrowable set
found-growable running some dsn set found =
    let lawful = found-lawful running some dsn set found in record { whole = lawful.whole; few = lawful.few }
