-- Candidates as the lists see them.
use Rattle.std.proofs.Common.{◌≡◌, ◌<◌, ◌≤◌, ◌+◌, ℕ, Bool, true, false, List, [], ◌∷◌, ◌++◌, length, map, take, refl, sym, ap, ◌∙◌}
use Rattle.std.specs.Prelude.{Option, None, Some, filter, is_some, option_map, slice_get}
use Rattle.std.proofs.lemmas.List.{append-nil, map-append, take_all, take_more}
use Rattle.std.proofs.lemmas.List.Elements.{filter-append}
use Rattle.std.proofs.lemmas.Option.{get_or_from_slice_get}
use Rattle.desk_law.specs.Candidates.{grant_on, view_of}
use Rattle.desk_law.specs.State.{DeskState}
use Rattle.desk_law.specs.Volumes.{volumes_in}
use Rattle.desk_law.proofs.PlaceLemmas.{each-at}
use Rattle.sms_construct.specs.declared.volume.VolumeDef.{VolumeDef}
use Rattle.sms_volumes.specs.Asking.{ask_of}
use Rattle.sms_volumes.specs.Holding.{AreVolumesOf, IsVolumeOf}
use Rattle.sms_volumes.specs.declared.active_group.ActiveGroup.{ActiveGroup}
use Rattle.sms_volumes.specs.declared.active_volume.ActiveVolume.{ActiveVolume}
use Rattle.sms_volumes.specs.declared.active_volumes.ActiveVolumes.{ActiveVolumes}
use Rattle.sms_volumes.specs.declared.asked.Asked.{Asked}
use Rattle.sms_volumes.proofs.ViewLemmas.{seen-at}
use Rattle.volume_lists.specs.declared.view.VolView.{VolView}
use Rattle.volume_reasons.specs.Inner.Views.{is_listed, listed_among, view_as}

-- One volume.

-- with its room it is what the law sees
pub view-there : (s : DeskState) (running : ActiveVolumes) (asked : Asked) (place : ℕ) (v : ActiveVolume) (group : ActiveGroup) (fits : Bool) → AreVolumesOf s running → slice_get running.volumes.items place ≡ Some v
    → slice_get running.groups.items v.group ≡ Some group → fits ≡ is_some (grant_on s v.volume (ask_of asked) 0) → view_as asked v group fits ≡ view_of s (ask_of asked) v.volume
view-there s running asked place v group fits are at there is =
    ap (λ (x : VolView). record x { fits = fits }) (seen-at s running asked place v group are at there)
    ∙ ap (λ (b : Bool). record (view_of s (ask_of asked) v.volume) { fits = b }) is

pub mapped-some : {X Y : Type 0} (f : X → Y) (o : Option X) → is_some o ≡ is_some (option_map f o)
mapped-some f None = refl
mapped-some f (Some x) = refl

-- its storage group is there
pub group-there : (s : DeskState) (running : ActiveVolumes) (place : ℕ) (v : ActiveVolume) → AreVolumesOf s running → slice_get running.volumes.items place ≡ Some v → slice_get running.groups.items v.group ≡ None → ⊥
group-there s running place v are at none =
    let own : IsVolumeOf s running.groups.items v = each-at (IsVolumeOf s running.groups.items) running.volumes.items place v are.each_volume at in
    let group = own.group in
    let there : Some group.group ≡ None = sym group.there ∙ none in cc there

-- Volumes one by one.

one-candidate : (groups : List (List ℕ)) (v : ActiveVolume) → is_listed groups v.volume ≡ true → listed_among groups (v ∷ []) ≡ v.volume ∷ []
one-candidate groups v is = rw is refl

no-candidate : (groups : List (List ℕ)) (v : ActiveVolume) → is_listed groups v.volume ≡ false → listed_among groups (v ∷ []) ≡ []
no-candidate groups v off = rw off refl

-- a volume that is no candidate adds nothing
pub viewed-none : (s : DeskState) (asked : Asked) (groups : List (List ℕ)) (v : ActiveVolume) (views : List VolView) → is_listed groups v.volume ≡ false
    → views ≡ views ++ map (view_of s (ask_of asked)) (listed_among groups (v ∷ []))
viewed-none s asked groups v views off =
    sym (append-nil views) ∙ ap (λ (l : List VolumeDef). views ++ map (view_of s (ask_of asked)) l) (sym (no-candidate groups v off))

-- one that is one adds its view
pub viewed-one : (s : DeskState) (asked : Asked) (groups : List (List ℕ)) (v : ActiveVolume) (view : VolView) (views now : List VolView) → is_listed groups v.volume ≡ true
    → view ≡ view_of s (ask_of asked) v.volume → now ≡ views ++ view ∷ [] → now ≡ views ++ map (view_of s (ask_of asked)) (listed_among groups (v ∷ []))
viewed-one s asked groups v view views now on is pushed =
    pushed ∙ ap (λ (x : VolView). views ++ x ∷ []) is ∙ ap (λ (l : List VolumeDef). views ++ map (view_of s (ask_of asked)) l) (sym (one-candidate groups v on))

some-append : (groups : List (List ℕ)) (xs ys : List ActiveVolume) → listed_among groups (xs ++ ys) ≡ listed_among groups xs ++ listed_among groups ys
some-append groups xs ys =
    ap (filter (is_listed groups)) (map-append (λ (v : ActiveVolume). v.volume) xs ys)
    ∙ filter-append (is_listed groups) (map (λ (v : ActiveVolume). v.volume) xs) (map (λ (v : ActiveVolume). v.volume) ys)

front-more : (volumes : List ActiveVolume) (place : ℕ) (v : ActiveVolume) → place < length volumes → slice_get volumes place ≡ Some v → take (place + 1) volumes ≡ take place volumes ++ v ∷ []
front-more volumes place v less there = take_more volumes place v less ∙ ap (λ (x : ActiveVolume). take place volumes ++ x ∷ []) (get_or_from_slice_get volumes place v v there)

-- the views of the volumes up to a place, and of one more
pub viewed-more : (s : DeskState) (asked : Asked) (groups : List (List ℕ)) (volumes : List ActiveVolume) (place : ℕ) (v : ActiveVolume) (views now : List VolView) → place < length volumes → slice_get volumes place ≡ Some v
    → views ≡ map (view_of s (ask_of asked)) (listed_among groups (take place volumes)) → now ≡ views ++ map (view_of s (ask_of asked)) (listed_among groups (v ∷ []))
    → now ≡ map (view_of s (ask_of asked)) (listed_among groups (take (place + 1) volumes))
viewed-more s asked groups volumes place v views now less there before step =
    let see : List VolumeDef → List VolView = map (view_of s (ask_of asked)) in
    let front = listed_among groups (take place volumes) in
    let one = listed_among groups (v ∷ []) in
    step ∙ ap (λ (l : List VolView). l ++ see one) before
    ∙ sym (map-append (view_of s (ask_of asked)) front one)
    ∙ ap see (sym (ap (listed_among groups) (front-more volumes place v less there) ∙ some-append groups (take place volumes) (v ∷ [])))

-- those of all volumes are those of the candidates of the law
pub viewed-all : (s : DeskState) (asked : Asked) (groups : List (List ℕ)) (running : ActiveVolumes) (place : ℕ) (views : List VolView) → AreVolumesOf s running → length running.volumes.items ≤ place
    → views ≡ map (view_of s (ask_of asked)) (listed_among groups (take place running.volumes.items)) → views ≡ map (view_of s (ask_of asked)) (filter (is_listed groups) (volumes_in s.active))
viewed-all s asked groups running place views are end is =
    is ∙ ap (λ (l : List ActiveVolume). map (view_of s (ask_of asked)) (listed_among groups l)) (take_all place running.volumes.items end)
    ∙ ap (λ (l : List VolumeDef). map (view_of s (ask_of asked)) (filter (is_listed groups) l)) are.volumes_are
