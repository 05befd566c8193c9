-- The volume that leads, volume by volume.
use Rattle.std.proofs.Common.{◌≡◌, ◌≤◌, ◌<◌, ℕ, zero, suc, ◌+◌, Bool, true, false, List, [], ◌∷◌, ◌++◌, length, map}
use Rattle.std.proofs.Common.{take, drop, refl, sym, ap, ◌∙◌, ◌⊎◌, inl, inr, subst, arith}
use Rattle.std.specs.Prelude.{Option, None, Some, MatchOption, filter, is_some, nat_lt, slice_get}
use Rattle.std.specs.List.{list_all, list_any}
use Rattle.std.proofs.lemmas.Bool.Decides.{nat_tests}
use Rattle.std.proofs.lemmas.List.{append-nil, drop-append-le, length-take-le, map-append, take-append-drop}
use Rattle.std.proofs.lemmas.List.Elements.{filter-append}
use Rattle.desk_common.specs.Limits.{most_pieces}
use Rattle.sms_construct.specs.declared.volume.VolumeDef.{VolumeDef}
use Rattle.volume_lists.specs.Choice.{comes_before, is_earlier, is_rejected, rank_of}
use Rattle.volume_lists.specs.Listing.{listing_of}
use Rattle.volume_lists.specs.declared.view.VolView.{VolView}
use Rattle.desk_law.specs.State.{DeskState}
use Rattle.desk_law.specs.Candidates.{grant_on, tier_among, view_of, want_of}
use Rattle.sms_volumes.specs.Asking.{ask_of}
use Rattle.sms_volumes.specs.Changing.{IsFree}
use Rattle.sms_volumes.specs.Holding.{AreVolumesOf}
use Rattle.sms_volumes.specs.Inner.Leading.{IsLeading, Leads, before_lead, candidates_among, rank_on}
use Rattle.sms_volumes.specs.Viewing.{IsPick, candidates_in, is_candidate}
use Rattle.sms_volumes.specs.declared.active_volume.ActiveVolume.{ActiveVolume}
use Rattle.sms_volumes.specs.declared.active_volumes.ActiveVolumes.{ActiveVolumes}
use Rattle.sms_volumes.specs.declared.asked.Asked.{Asked}
use Rattle.sms_volumes.specs.declared.candidates.Candidates.{Candidates}
use Rattle.sms_volumes.specs.declared.lead.Lead.{Lead}
use Rattle.sms_volumes.specs.declared.pick.Pick.{Pick}
use Rattle.sms_volumes.proofs.RankLemmas.{any-both, any-none, any-weaker, before-first, before-none, before-self}
use Rattle.sms_volumes.proofs.RankLemmas.{before-then, behind-all, front-none, none-of, rank-full, rank-listed}
use Rattle.sms_volumes.proofs.RankLemmas.{rank-most, rank-rejected, rank-some, there-last, there-longer, there-mapped}

-- Candidates among some volumes and among more.

among-append : (candidates : Candidates) (xs ys : List ActiveVolume) → candidates_among candidates (xs ++ ys) ≡ candidates_among candidates xs ++ candidates_among candidates ys
among-append candidates xs ys =
    ap (filter (is_candidate candidates)) (map-append (λ (v : ActiveVolume). v.volume) xs ys)
    ∙ filter-append (is_candidate candidates) (map (λ (v : ActiveVolume). v.volume) xs) (map (λ (v : ActiveVolume). v.volume) ys)

front-more : (volumes : List ActiveVolume) (place : ℕ) (v : ActiveVolume) → slice_get volumes place ≡ Some v → take (suc place) volumes ≡ take place volumes ++ v ∷ []
front-more [] place v there = absurd cc
front-more (x ∷ []) zero v there =
    let same : x ≡ v = cc in ap (λ (y : ActiveVolume). y ∷ []) same
front-more (x ∷ (y ∷ volumes)) zero v there =
    let same : x ≡ v = cc in ap (λ (z : ActiveVolume). z ∷ []) same
front-more (x ∷ volumes) (suc place) v there = ap (λ (l : List ActiveVolume). x ∷ l) (front-more volumes place v there)

among-one : (candidates : Candidates) (v : ActiveVolume) → is_candidate candidates v.volume ≡ true → candidates_among candidates (v ∷ []) ≡ v.volume ∷ []
among-one candidates v is = rw is refl

among-none : (candidates : Candidates) (v : ActiveVolume) → is_candidate candidates v.volume ≡ false → candidates_among candidates (v ∷ []) ≡ []
among-none candidates v is = rw is refl

-- Lists of which one part stands before the other or behind it.

there-behind : {X : Type 0} (xs ys : List X) (k : ℕ) (x : X) → slice_get ys k ≡ Some x → slice_get (xs ++ ys) (length xs + k) ≡ Some x
there-behind [] ys k x there =
    let same : k ≡ 0 + k = omega arith in subst (λ (n : ℕ). slice_get ys n ≡ Some x) same there
there-behind (y ∷ xs) ys k x there =
    let step : suc (length xs + k) ≡ length (y ∷ xs) + k = omega arith in
    subst (λ (n : ℕ). slice_get (y ∷ (xs ++ ys)) n ≡ Some x) step (there-behind xs ys k x there)

-- the place of something in a list
record IsIn {X : Type 0} (xs : List X) (x : X) : Type 0 where
  pub position : ℕ
  pub there : slice_get xs position ≡ Some x

one-more : {X : Type 0} (ys : List X) (y x : X) → IsIn ys x → IsIn (y ∷ ys) x
one-more ys y x is = record { position = suc is.position; there = is.there }

behind-some : {X : Type 0} (xs ys : List X) (x : X) → IsIn ys x → IsIn (xs ++ ys) x
behind-some xs ys x is = record { position = length xs + is.position; there = there-behind xs ys is.position x is.there }

in-front : {X : Type 0} (xs ys : List X) (x : X) → IsIn xs x → IsIn (xs ++ ys) x
in-front xs ys x is = record { position = is.position; there = there-longer xs ys is.position x is.there }

-- it stands in one of the two parts
parted : {X : Type 0} (xs ys : List X) (k : ℕ) (x : X) → slice_get (xs ++ ys) k ≡ Some x → IsIn xs x ⊎ IsIn ys x
parted [] ys k x there = inr (record { position = k; there = there })
parted (y ∷ xs) ys zero x there = inl (record { position = zero; there = there })
parted (y ∷ xs) ys (suc k) x there = later (parted xs ys k x there)
  where
    later : IsIn xs x ⊎ IsIn ys x → IsIn (y ∷ xs) x ⊎ IsIn ys x
    later (inl is) = inl (one-more xs y x is)
    later (inr is) = inr is

either-turned : {X : Type 0} (xs ys : List X) (x : X) → IsIn xs x ⊎ IsIn ys x → IsIn (ys ++ xs) x
either-turned xs ys x (inl is) = behind-some ys xs x is
either-turned xs ys x (inr is) = in-front ys xs x is

turned : {X : Type 0} (xs ys : List X) (k : ℕ) (x : X) → slice_get (xs ++ ys) k ≡ Some x → IsIn (ys ++ xs) x
turned xs ys k x there = either-turned xs ys x (parted xs ys k x there)

any-front : {X : Type 0} (p : X → Bool) (xs ys : List X) → list_any p (xs ++ ys) ≡ false → list_any p xs ≡ false
any-front p [] ys none = refl
any-front p (x ∷ xs) ys none =
    let both = none-of (p x) (list_any p (xs ++ ys)) none in
    let rest = any-front p xs ys both.1 in
    rw (both.0, rest) refl

any-behind : {X : Type 0} (p : X → Bool) (xs ys : List X) → list_any p (xs ++ ys) ≡ false → list_any p ys ≡ false
any-behind p [] ys none = none
any-behind p (x ∷ xs) ys none = any-behind p xs ys (none-of (p x) (list_any p (xs ++ ys)) none).1

any-turned : {X : Type 0} (p : X → Bool) (xs ys : List X) → list_any p (xs ++ ys) ≡ false → list_any p (ys ++ xs) ≡ false
any-turned p xs ys none = any-both p ys xs (any-behind p xs ys none) (any-front p xs ys none)

take-take : {X : Type 0} (place to : ℕ) (xs : List X) → place ≤ to → take place (take to xs) ≡ take place xs
take-take zero to xs le = front-none (take to xs) ∙ sym (front-none xs)
take-take (suc place) zero xs le = absurd (omega (arith, le))
take-take (suc place) (suc to) [] le = refl
take-take (suc place) (suc to) (x ∷ xs) le = ap (λ l. x ∷ l) (take-take place to xs (omega (arith, le)))

-- the part of a list from a place up to itself is empty
pub part-none : {X : Type 0} (from : ℕ) (xs : List X) → drop from (take from xs) ≡ []
part-none zero [] = refl
part-none zero (x ∷ xs) = refl
part-none (suc from) [] = refl
part-none (suc from) (x ∷ xs) = part-none from xs

-- what stands at a place of a list
pub record IsAt {X : Type 0} (xs : List X) (place : ℕ) : Type 0 where
  pub value : X
  pub there : slice_get xs place ≡ Some value

pub at-place : {X : Type 0} (xs : List X) (place : ℕ) → place < length xs → IsAt xs place
at-place [] place less = absurd (omega (arith, less))
at-place (x ∷ xs) zero less = record { value = x; there = refl }
at-place (x ∷ xs) (suc place) less =
    let rest = at-place xs place (omega (arith, less)) in record { value = rest.value; there = rest.there }

-- what stands before a place and what is behind it
pub turned-whole : {X : Type 0} (start : ℕ) (xs : List X) → drop 0 (take start xs) ++ drop start xs ≡ xs
turned-whole start xs = ap (λ l. l ++ drop start xs) (drop-none (take start xs)) ∙ take-append-drop start xs
  where
    drop-none : {X : Type 0} (xs : List X) → drop 0 xs ≡ xs
    drop-none [] = refl
    drop-none (x ∷ xs) = refl

-- the part of a list from one place up to another grows by the next
pub part-more : (volumes : List ActiveVolume) (from place : ℕ) (v : ActiveVolume) → from ≤ place → place < length volumes → slice_get volumes place ≡ Some v
    → drop from (take (place + 1) volumes) ≡ drop from (take place volumes) ++ v ∷ []
part-more volumes from place v le within there =
    let next : place + 1 ≡ suc place = omega arith in
    let long : length (take place volumes) ≡ place = length-take-le place volumes (omega (arith, within)) in
    ap (λ (n : ℕ). drop from (take n volumes)) next
    ∙ (ap (drop from) (front-more volumes place v there) ∙ drop-append-le from (take place volumes) (v ∷ []) (subst (λ (n : ℕ). from ≤ n) (sym long) le))

-- and it is the part up to a place and what is behind it
pub part-rest : (volumes : List ActiveVolume) (from place to : ℕ) → from ≤ place → place ≤ to → to ≤ length volumes
    → drop from (take to volumes) ≡ drop from (take place volumes) ++ drop place (take to volumes)
part-rest volumes from place to le less within =
    let front : take place (take to volumes) ≡ take place volumes = take-take place to volumes less in
    let long : length (take place volumes) ≡ place = length-take-le place volumes (omega (arith, less, within)) in
    ap (drop from) (sym (take-append-drop place (take to volumes)))
    ∙ (ap (λ (l : List ActiveVolume). drop from (l ++ drop place (take to volumes))) front
    ∙ drop-append-le from (take place volumes) (drop place (take to volumes)) (subst (λ (n : ℕ). from ≤ n) (sym long) le))

-- The lead.

module _ (s : DeskState) (running : ActiveVolumes) (asked : Asked) where
  leading-longer : (lead : Lead) (xs ys : List VolumeDef) (o : Option Pick) → MatchOption o ((lead.rank ≡ 4) × (lead.tier ≡ 0)) (IsLeading s running xs asked lead)
      → MatchOption o ((lead.rank ≡ 4) × (lead.tier ≡ 0)) (IsLeading s running (xs ++ ys) asked lead)
  leading-longer lead xs ys None is = is
  leading-longer lead xs ys (Some pick) is = record {
    position = is.position;
    volume = is.volume;
    at = is.at;
    there = there-longer xs ys is.position is.volume.volume is.there;
    granted = is.granted;
    free = is.free;
    few = is.few;
    rank = is.rank;
    tier = is.tier;
    listed = is.listed;
  }

  -- none of the further volumes comes before it
  leads-longer : (lead : Lead) (xs ys : List VolumeDef) → Leads s running xs asked lead → list_any (before_lead s asked lead) ys ≡ false → Leads s running (xs ++ ys) asked lead
  leads-longer lead xs ys leads none = record {
    first = any-both (before_lead s asked lead) xs ys leads.first none;
    pick = leading-longer lead xs ys lead.pick leads.pick;
  }

  leading-most : (lead : Lead) (xs : List VolumeDef) (o : Option Pick) → MatchOption o ((lead.rank ≡ 4) × (lead.tier ≡ 0)) (IsLeading s running xs asked lead) → (lead.rank ≤ 4) × (lead.rank ≡ 4 → lead.tier ≡ 0)
  leading-most lead xs None is =
      let rank = is.0 in let tier = is.1 in (omega (arith, rank), λ same. tier)
  leading-most lead xs (Some pick) is =
      let listed = is.listed in (omega (arith, listed), λ same. absurd (omega (arith, same, listed)))

  -- a rejected volume doesn't come before it
  rejected-behind : (lead : Lead) (xs : List VolumeDef) (volume : VolumeDef) → Leads s running xs asked lead → rank_on s asked volume ≡ 4 → before_lead s asked lead volume ≡ false
  rejected-behind lead xs volume leads is =
      let most = leading-most lead xs lead.pick leads.pick in
      ap (λ (n : ℕ). comes_before n (tier_among asked.tiers.now volume.group) lead.rank lead.tier) is ∙ behind-all (tier_among asked.tiers.now volume.group) lead.rank lead.tier most.0 most.1

  -- One volume more.

  -- it is no candidate
  pub lead-past : (lead : Lead) (candidates : Candidates) (looked : List ActiveVolume) (v : ActiveVolume) → is_candidate candidates v.volume ≡ false
      → Leads s running (candidates_among candidates looked) asked lead → Leads s running (candidates_among candidates (looked ++ v ∷ [])) asked lead
  lead-past lead candidates looked v off leads =
      let front = candidates_among candidates looked in
      let same : candidates_among candidates (looked ++ v ∷ []) ≡ front =
      among-append candidates looked (v ∷ []) ∙ (ap (λ (l : List VolumeDef). front ++ l) (among-none candidates v off) ∙ append-nil front) in
      subst (λ (l : List VolumeDef). Leads s running l asked lead) (sym same) leads

  more-is : (candidates : Candidates) (looked : List ActiveVolume) (v : ActiveVolume) → is_candidate candidates v.volume ≡ true
      → candidates_among candidates (looked ++ v ∷ []) ≡ candidates_among candidates looked ++ v.volume ∷ []
  more-is candidates looked v on =
      among-append candidates looked (v ∷ []) ∙ ap (λ (l : List VolumeDef). candidates_among candidates looked ++ l) (among-one candidates v on)

  -- it doesn't come before the lead
  lead-stays : (lead : Lead) (candidates : Candidates) (looked : List ActiveVolume) (v : ActiveVolume) → is_candidate candidates v.volume ≡ true
      → before_lead s asked lead v.volume ≡ false → Leads s running (candidates_among candidates looked) asked lead
      → Leads s running (candidates_among candidates (looked ++ v ∷ [])) asked lead
  lead-stays lead candidates looked v on behind leads =
      subst (λ (l : List VolumeDef). Leads s running l asked lead) (sym (more-is candidates looked v on))
      (leads-longer lead (candidates_among candidates looked) (v.volume ∷ []) leads (rw behind refl))

  -- the rank of the volume as it would stand if it had room
  abbrev rank-if : VolView → ℕ
  rank-if view = rank_of (listing_of view (want_of (ask_of asked)))

  roomy : (v : VolumeDef) → is_some (grant_on s v (ask_of asked) 0) ≡ true → record (view_of s (ask_of asked) v) { fits = true } ≡ view_of s (ask_of asked) v
  roomy v is = ap (λ (b : Bool). record (view_of s (ask_of asked) v) { fits = b }) (sym is)

  behind-either : (lead : Lead) (xs : List VolumeDef) (v : VolumeDef) (fits : Bool) → is_some (grant_on s v (ask_of asked) 0) ≡ fits → Leads s running xs asked lead
      → comes_before (rank-if (record (view_of s (ask_of asked) v) { fits = true })) (tier_among asked.tiers.now v.group) lead.rank lead.tier ≡ false → before_lead s asked lead v ≡ false
  behind-either lead xs v true is leads behind = ap (λ (view : VolView). comes_before (rank-if view) (tier_among asked.tiers.now v.group) lead.rank lead.tier) (sym (roomy v is)) ∙ behind
  behind-either lead xs v false is leads behind = rejected-behind lead xs v leads (rank-full (view_of s (ask_of asked) v) (want_of (ask_of asked)) is)

  -- it wouldn't come before the lead if it had room
  pub lead-behind : (lead : Lead) (candidates : Candidates) (looked : List ActiveVolume) (v : ActiveVolume) (view : VolView) → is_candidate candidates v.volume ≡ true
      → view ≡ record (view_of s (ask_of asked) v.volume) { fits = true } → comes_before (rank_of (listing_of view (want_of (ask_of asked)))) view.tier lead.rank lead.tier ≡ false
      → Leads s running (candidates_among candidates looked) asked lead → Leads s running (candidates_among candidates (looked ++ v ∷ [])) asked lead
  lead-behind lead candidates looked v view on seen behind leads =
      let now = subst (λ (x : VolView). comes_before (rank_of (listing_of x (want_of (ask_of asked)))) x.tier lead.rank lead.tier ≡ false) seen behind in
      lead-stays lead candidates looked v on (behind-either lead (candidates_among candidates looked) v.volume _ refl leads now) leads

  -- it has no room
  pub lead-full : (lead : Lead) (candidates : Candidates) (looked : List ActiveVolume) (v : ActiveVolume) → is_candidate candidates v.volume ≡ true
      → grant_on s v.volume (ask_of asked) 0 ≡ None
      → Leads s running (candidates_among candidates looked) asked lead → Leads s running (candidates_among candidates (looked ++ v ∷ [])) asked lead
  lead-full lead candidates looked v on none leads =
      lead-stays lead candidates looked v on
      (rejected-behind lead (candidates_among candidates looked) v.volume leads (rank-full (view_of s (ask_of asked) v.volume) (want_of (ask_of asked)) (ap is_some none))) leads

  taken-listed : (lead : Lead) (xs : List VolumeDef) (r t : ℕ) (b : Bool) → nat_lt r 4 ≡ b → Leads s running xs asked lead → r ≤ 4 → comes_before r t lead.rank lead.tier ≡ true → r < 4
  taken-listed lead xs r t true is leads small before = grind (arith, nat_tests)
  taken-listed lead xs r t false is leads small before =
      let most = leading-most lead xs lead.pick leads.pick in
      let le : 4 ≤ r = grind (arith, nat_tests) in
      let last : r ≡ 4 = omega (arith, small, le) in
      let now : true ≡ false = sym before ∙ (ap (λ (n : ℕ). comes_before n t lead.rank lead.tier) last ∙ behind-all t lead.rank lead.tier most.0 most.1) in
      absurd cc

  -- it takes the lead
  pub lead-taken : (lead : Lead) (candidates : Candidates) (looked : List ActiveVolume) (place : ℕ) (v : ActiveVolume) (view : VolView) (pick : Pick) → slice_get running.volumes.items place ≡ Some v → is_candidate candidates v.volume ≡ true
      → view ≡ record (view_of s (ask_of asked) v.volume) { fits = true } → comes_before (rank_of (listing_of view (want_of (ask_of asked)))) view.tier lead.rank lead.tier ≡ true
      → pick.place ≡ place → grant_on s v.volume (ask_of asked) 0 ≡ Some pick.grant.items → IsFree v pick.grant.items → length pick.grant.items ≤ most_pieces
      → Leads s running (candidates_among candidates looked) asked lead
      → Leads s running (candidates_among candidates (looked ++ v ∷ [])) asked (record { pick = Some pick; rank = rank_of (listing_of view (want_of (ask_of asked))); tier = view.tier })
  lead-taken lead candidates looked place v view pick there on seen before at granted free few leads =
      let front = candidates_among candidates looked in
      let whole : view ≡ view_of s (ask_of asked) v.volume = seen ∙ roomy v.volume (ap is_some granted) in
      let rank : rank_on s asked v.volume ≡ rank-if view = ap rank-if (sym whole) in
      let tier : tier_among asked.tiers.now v.volume.group ≡ view.tier = ap (λ (x : VolView). x.tier) (sym seen) in
      let next : Lead = record { pick = Some pick; rank = rank-if view; tier = view.tier } in
      let self : before_lead s asked next v.volume ≡ false =
      ap (λ (r : ℕ). comes_before r (tier_among asked.tiers.now v.volume.group) next.rank next.tier) rank
      ∙ (ap (λ (t : ℕ). comes_before next.rank t next.rank next.tier) tier ∙ before-self next.rank next.tier) in
      subst (λ (l : List VolumeDef). Leads s running l asked next) (sym (more-is candidates looked v on))
      (record {
        first = any-both (before_lead s asked next) front (v.volume ∷ [])
            (any-weaker (before_lead s asked lead) (before_lead s asked next) front
            (λ y off. before-then (rank_on s asked y) (tier_among asked.tiers.now y.group) next.rank next.tier lead.rank lead.tier before off) leads.first)
            (rw self refl);
        pick = record {
          position = length front;
          volume = v;
          at = ap (slice_get running.volumes.items) at ∙ there;
          there = there-last front v.volume;
          granted = granted;
          free = free;
          few = few;
          rank = rank;
          tier = tier;
          listed = taken-listed lead front next.rank next.tier _ refl leads (rank-most (listing_of view (want_of (ask_of asked)))) before;
        };
      })

  -- All volumes.

  rejected-at : (volumes : List VolumeDef) → list_any (λ other. comes_before (rank_on s asked other) (tier_among asked.tiers.now other.group) 4 0) volumes ≡ false
      → list_all (λ view. is_rejected (listing_of view (want_of (ask_of asked)))) (map (view_of s (ask_of asked)) volumes) ≡ true
  rejected-at [] none = refl
  rejected-at (v ∷ volumes) none =
      let both = none-of (comes_before (rank_on s asked v) (tier_among asked.tiers.now v.group) 4 0) _ none in
      let most : 4 ≤ rank_on s asked v = before-none (rank_on s asked v) (tier_among asked.tiers.now v.group) both.0 in
      let here : is_rejected (listing_of (view_of s (ask_of asked) v) (want_of (ask_of asked))) ≡ true = rank-rejected (listing_of (view_of s (ask_of asked) v) (want_of (ask_of asked))) most in
      let rest = rejected-at volumes both.1 in
      rw (here, rest) refl

  earlier-at : (volumes : List VolumeDef) (volume : VolumeDef)
      → list_any (λ other. comes_before (rank_on s asked other) (tier_among asked.tiers.now other.group) (rank_on s asked volume) (tier_among asked.tiers.now volume.group)) volumes ≡ false
      → list_any (λ other. is_earlier (want_of (ask_of asked)) other (view_of s (ask_of asked) volume)) (map (view_of s (ask_of asked)) volumes) ≡ false
  earlier-at [] volume none = refl
  earlier-at (v ∷ volumes) volume none =
      let both = none-of (comes_before (rank_on s asked v) (tier_among asked.tiers.now v.group) (rank_on s asked volume) (tier_among asked.tiers.now volume.group)) _ none in
      let here = both.0 in
      let rest = earlier-at volumes volume both.1 in
      rw (here, rest) refl

  picked : (candidates : Candidates) (lead : Lead) (o : Option Pick) → list_any (before_lead s asked lead) (candidates_in s candidates) ≡ false
      → MatchOption o ((lead.rank ≡ 4) × (lead.tier ≡ 0)) (IsLeading s running (candidates_in s candidates) asked lead) → IsPick s running candidates asked o
  picked candidates lead None first is =
      rejected-at (candidates_in s candidates)
      (subst (λ (n : ℕ). list_any (λ other. comes_before (rank_on s asked other) (tier_among asked.tiers.now other.group) n 0) (candidates_in s candidates) ≡ false) is.0
      (subst (λ (t : ℕ). list_any (λ other. comes_before (rank_on s asked other) (tier_among asked.tiers.now other.group) lead.rank t) (candidates_in s candidates) ≡ false) is.1 first))
  picked candidates lead (Some pick) first is =
      let volume = is.volume.volume in
      record {
        position = is.position;
        may = record {
          view = view_of s (ask_of asked) volume;
          there = there-mapped (view_of s (ask_of asked)) (candidates_in s candidates) is.position volume is.there;
          listed = rank-listed (listing_of (view_of s (ask_of asked) volume) (want_of (ask_of asked))) (subst (λ (n : ℕ). n < 4) (sym is.rank) is.listed);
          first = earlier-at (candidates_in s candidates) volume
              (subst (λ (n : ℕ). list_any (λ other. comes_before (rank_on s asked other) (tier_among asked.tiers.now other.group) n (tier_among asked.tiers.now volume.group)) (candidates_in s candidates) ≡ false) (sym is.rank)
              (subst (λ (t : ℕ). list_any (λ other. comes_before (rank_on s asked other) (tier_among asked.tiers.now other.group) lead.rank t) (candidates_in s candidates) ≡ false) (sym is.tier) first));
        };
        volume = is.volume;
        at = is.at;
        there = is.there;
        granted = is.granted;
        free = is.free;
        few = is.few;
      }

  pub lead-picked : (candidates : Candidates) (lead : Lead) → AreVolumesOf s running → Leads s running (candidates_among candidates running.volumes.items) asked lead → IsPick s running candidates asked lead.pick
  lead-picked candidates lead are leads =
      let same : candidates_among candidates running.volumes.items ≡ candidates_in s candidates = ap (filter (is_candidate candidates)) are.volumes_are in
      let all = subst (λ (l : List VolumeDef). Leads s running l asked lead) same leads in
      picked candidates lead lead.pick all.first all.pick

  -- nothing can come before a lead in the primary list and the first tier
  pub lead-first : (candidates : Candidates) (lead : Lead) (looked more : List ActiveVolume) → lead.rank ≡ 1 → lead.tier ≡ 0 → Leads s running (candidates_among candidates looked) asked lead
      → Leads s running (candidates_among candidates (looked ++ more)) asked lead
  lead-first candidates lead looked more rank tier leads =
      subst (λ (l : List VolumeDef). Leads s running l asked lead) (sym (among-append candidates looked more))
      (leads-longer lead (candidates_among candidates looked) (candidates_among candidates more) leads
      (any-none (before_lead s asked lead) (candidates_among candidates more) (λ y.
      ap (λ (n : ℕ). comes_before (rank_on s asked y) (tier_among asked.tiers.now y.group) n lead.tier) rank
      ∙ (ap (λ (n : ℕ). comes_before (rank_on s asked y) (tier_among asked.tiers.now y.group) 1 n) tier
      ∙ before-first (rank_on s asked y) (tier_among asked.tiers.now y.group) (rank-some (listing_of (view_of s (ask_of asked) y) (want_of (ask_of asked))))))))

  pub lead-none : (candidates : Candidates) (lead : Lead) → lead.pick ≡ None → lead.rank ≡ 4 → lead.tier ≡ 0 → Leads s running (candidates_among candidates []) asked lead
  lead-none candidates lead none rank tier =
      record { first = refl; pick = subst (λ (o : Option Pick). MatchOption o ((lead.rank ≡ 4) × (lead.tier ≡ 0)) (IsLeading s running [] asked lead)) (sym none) (rank, tier) }

  -- it doesn't matter which part was looked at first
  leading-turned : (lead : Lead) (xs ys : List VolumeDef) (o : Option Pick) → MatchOption o ((lead.rank ≡ 4) × (lead.tier ≡ 0)) (IsLeading s running (xs ++ ys) asked lead)
      → MatchOption o ((lead.rank ≡ 4) × (lead.tier ≡ 0)) (IsLeading s running (ys ++ xs) asked lead)
  leading-turned lead xs ys None is = is
  leading-turned lead xs ys (Some pick) is =
      let spot = turned xs ys is.position is.volume.volume is.there in
      record {
        position = spot.position;
        volume = is.volume;
        at = is.at;
        there = spot.there;
        granted = is.granted;
        free = is.free;
        few = is.few;
        rank = is.rank;
        tier = is.tier;
        listed = is.listed;
      }

  pub lead-turned : (candidates : Candidates) (lead : Lead) (one two : List ActiveVolume) → Leads s running (candidates_among candidates (one ++ two)) asked lead
      → Leads s running (candidates_among candidates (two ++ one)) asked lead
  lead-turned candidates lead one two leads =
      let xs = candidates_among candidates one in
      let ys = candidates_among candidates two in
      let parted = subst (λ (l : List VolumeDef). Leads s running l asked lead) (among-append candidates one two) leads in
      subst (λ (l : List VolumeDef). Leads s running l asked lead) (sym (among-append candidates two one))
      (record { first = any-turned (before_lead s asked lead) xs ys parted.first; pick = leading-turned lead xs ys lead.pick parted.pick })
