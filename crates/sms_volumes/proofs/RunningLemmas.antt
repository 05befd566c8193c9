-- All running volumes after a change of one data set.
use Rattle.std.proofs.Common.{◌≡◌, ◌≤◌, ◌<◌, ℕ, zero, suc, true, false, List, [], ◌∷◌, ◌++◌, length, get_or, refl, sym}
use Rattle.std.proofs.Common.{ap, ◌∙◌, subst, arith, append_assoc}
use Rattle.std.specs.Prelude.{Err, IfSome, None, Ok, OnOk, Option, Result, Some, bytes_eq, option_map, slice_get}
use Rattle.std.specs.Prelude.{slice_set}
use Rattle.std.specs.List.{All, AllByRecursion, AllZip}
use Rattle.std.specs.declared.alloc.AllocError.{AllocError}
use Rattle.std.proofs.lemmas.Option.{get_or_from_slice_get, slice_get-get_or}
use Rattle.desk_common.specs.Limits.{most_pieces}
use Rattle.sms_construct.specs.declared.data_set.DataSet.{DataSet}
use Rattle.sms_construct.specs.declared.extent.Extent.{Extent}
use Rattle.sms_construct.specs.declared.volume.VolumeDef.{VolumeDef}
use Rattle.track_ledger.specs.declared.piece.Piece.{Piece}
use Rattle.track_ledger.specs.Extents.{LiesInside, LieInGaps}
use Rattle.track_ledger.specs.Gaps.{gaps_of}
use Rattle.track_ledger.specs.Ledger.{IsLedgerOf, LedgerView}
use Rattle.desk_law.specs.State.{DeskState, with_set, without_name}
use Rattle.desk_law.specs.Extents.{extents_at, extents_named, held_on, pieces_on}
use Rattle.desk_law.specs.Lawful.{IsLawful}
use Rattle.desk_law.specs.Volumes.{times_volume}
use Rattle.desk_law.proofs.AscendLemmas.{active-volume-once}
use Rattle.desk_law.proofs.ByteLemmas.{bytes-self, bytes-turned}
use Rattle.desk_law.proofs.CountLemmas.{pieces-at, pieces-off}
use Rattle.sms_volumes.specs.Changing.{HasChanged, HoldsAll, IsFree, IsFreeAt, IsReadyAt, LiesOnSome}
use Rattle.sms_volumes.specs.Inner.Handing.{AreApart}
use Rattle.sms_volumes.specs.Holding.{AreVolumesOf}
use Rattle.sms_volumes.specs.declared.active_volume.ActiveVolume.{ActiveVolume}
use Rattle.sms_volumes.specs.declared.active_volumes.ActiveVolumes.{ActiveVolumes}
use Rattle.sms_volumes.proofs.ChangeLemmas.{Becomes, changed-none, each-holds, follow, zip-replaced, zip-set, zip-stays}
use Rattle.sms_volumes.proofs.HeldLemmas.{ledger-joined, ledger-split, ledger-swap, ledger-turn, pieces-append}

-- What stands at a place.

pub there-is : {X : Type 0} (xs : List X) (place : ℕ) (x : X) → place < length xs → x ≡ get_or xs place x → slice_get xs place ≡ Some x
there-is xs place x lt read = slice_get-get_or xs place x lt ∙ ap Some (sym read)

pub same-at : {X : Type 0} (xs : List X) (place : ℕ) (v x : X) → slice_get xs place ≡ Some v → x ≡ get_or xs place x → x ≡ v
same-at xs place v x there read = read ∙ get_or_from_slice_get xs place v x there

-- a list that is another
pub there-in : {X : Type 0} (xs ys : List X) (place : ℕ) (x : X) → ys ≡ xs → place < length ys → x ≡ get_or ys place x → slice_get xs place ≡ Some x
there-in xs ys place x same lt read = subst (λ (l : List _). slice_get l place ≡ Some x) same (there-is ys place x lt read)

set-there : {X : Type 0} (xs : List X) (place : ℕ) (x : X) → place < length xs → slice_get (slice_set xs place x) place ≡ Some x
set-there [] place x lt = absurd (omega (arith, lt))
set-there (y ∷ xs) zero x lt = refl
set-there (y ∷ xs) (suc place) x lt = set-there xs place x (omega (arith, lt))

-- the definition at the place stays
pub named-at : (volumes : List ActiveVolume) (place : ℕ) (x w : ActiveVolume) → place < length volumes → x ≡ get_or volumes place x → w.volume ≡ x.volume
    → option_map (λ (v : ActiveVolume). v.volume) (slice_get (slice_set volumes place w) place) ≡ option_map (λ (v : ActiveVolume). v.volume) (slice_get volumes place)
named-at volumes place x w lt read same =
    ap (option_map (λ (v : ActiveVolume). v.volume)) (set-there volumes place w lt)
    ∙ (ap Some same ∙ sym (ap (option_map (λ (v : ActiveVolume). v.volume)) (there-is volumes place x lt read)))

-- Serials of a lawful state.

pub apart-is : (s : DeskState) (running : ActiveVolumes) → IsLawful s → AreVolumesOf s running → AreApart running.volumes.items
apart-is s running lawful are = λ n. subst (λ (l : List VolumeDef). times_volume n l ≤ 1) (sym are.volumes_are) (active-volume-once s.active n lawful.config)

pub some-apart : (running : ActiveVolumes) (extents : List Extent) → LiesOnSome running extents → AreApart running.volumes.items
some-apart running extents lies = apart-is lies.state running lies.lawful lies.stand

-- What the change of a data set is to the ledgers.

put-becomes : (s : DeskState) (set : DataSet) → IsLawful s → Becomes s (with_set s set) (extents_named set.dsn s.sets) set.extents
put-becomes s set lawful = record {
  same = record { active = refl; statuses = refl };
  others = held_on (without_name s set.dsn);
  into = λ v l is. ledger-split s set.dsn v [] l lawful is;
  from = λ v l is. ledger-joined s set v l is;
}

drop-becomes : (s : DeskState) (dsn : List ℕ) → IsLawful s → Becomes s (without_name s dsn) (extents_named dsn s.sets) []
drop-becomes s dsn lawful = record {
  same = record { active = refl; statuses = refl };
  others = held_on (without_name s dsn);
  into = λ v l is. ledger-split s dsn v [] l lawful is;
  from = λ v l is. is;
}

grow-becomes : (s : DeskState) (set : DataSet) (added : List Extent) → IsLawful s → set.extents ≡ extents_named set.dsn s.sets ++ added → Becomes s (with_set s set) [] added
grow-becomes s set added lawful at = record {
  same = record { active = refl; statuses = refl };
  others = held_on s;
  into = λ v l is. is;
  from = λ v l is.
      let new = pieces_on v added in
      let own = pieces_on v (extents_named set.dsn s.sets) in
      let rest = held_on (without_name s set.dsn) v in
      let all : pieces_on v set.extents ++ rest ≡ own ++ (new ++ rest) =
      ap (λ (l : List Piece). l ++ rest) (ap (pieces_on v) at ∙ pieces-append v (extents_named set.dsn s.sets) added) ∙ append_assoc own new rest in
      ledger-joined s set v l (subst (λ (x : List Piece). IsLedgerOf x l) (sym all) (ledger-swap new own rest l (ledger-split s set.dsn v new l lawful is)));
}

-- a data set that lies as before
pub all-same : (s : DeskState) (set : DataSet) (running : ActiveVolumes) → IsLawful s → AreVolumesOf s running → set.extents ≡ extents_named set.dsn s.sets → AreVolumesOf (with_set s set) running
all-same s set running lawful are at =
    let es = extents_named set.dsn s.sets in
    follow s (with_set s set) es es running running (subst (Becomes s (with_set s set) es) at (put-becomes s set lawful)) are refl (zip-stays (HasChanged es es) running.volumes.items (changed-none es))

-- a data set is dropped
pub all-released : (s : DeskState) (dsn : List ℕ) (extents : List Extent) (running after : ActiveVolumes) → IsLawful s → AreVolumesOf s running → extents ≡ extents_named dsn s.sets
    → after.groups.items ≡ running.groups.items → AllZip (HasChanged extents []) running.volumes.items after.volumes.items → AreVolumesOf (without_name s dsn) after
all-released s dsn extents running after lawful are at groups zip =
    follow s (without_name s dsn) extents [] running after (subst (λ (es : List Extent). Becomes s (without_name s dsn) es []) (sym at) (drop-becomes s dsn lawful)) are groups zip

-- a data set keeps some of its extents
pub all-kept : (s : DeskState) (set : DataSet) (extents kept : List Extent) (running after : ActiveVolumes) → IsLawful s → AreVolumesOf s running → extents ≡ extents_named set.dsn s.sets → set.extents ≡ kept
    → after.groups.items ≡ running.groups.items → AllZip (HasChanged extents kept) running.volumes.items after.volumes.items → AreVolumesOf (with_set s set) after
all-kept s set extents kept running after lawful are at is groups zip =
    follow s (with_set s set) extents kept running after
    (subst (λ (es : List Extent). Becomes s (with_set s set) es kept) (sym at) (subst (Becomes s (with_set s set) (extents_named set.dsn s.sets)) is (put-becomes s set lawful))) are groups zip

-- each volume holds what lies of the extents on it
pub some-hold : (running : ActiveVolumes) (extents : List Extent) → LiesOnSome running extents → AllByRecursion (HoldsAll extents) running.volumes.items
some-hold running extents lies =
    let s = lies.state in
    let stand = lies.stand in
    subst (λ (es : List Extent). AllByRecursion (HoldsAll es) running.volumes.items) (sym lies.extents_are)
    (each-holds s running.groups.items (extents_named lies.dsn s.sets) running.volumes.items (held_on (without_name s lies.dsn)) (λ v l is. ledger-split s lies.dsn v [] l lies.lawful is) stand.each_volume)

-- Pieces of one volume come.

installed-off : (w : List ℕ) (pieces : List Piece) (x : ActiveVolume) → bytes_eq x.volume.volser w ≡ false → HasChanged [] (extents_at w pieces) x x
installed-off w pieces x off =
    let none : pieces_on x.volume.volser (extents_at w pieces) ≡ [] = pieces-off w x.volume.volser pieces (bytes-turned x.volume.volser w off) in
    record { volume = refl; status = refl; group = refl; capacity = refl; ledger = λ rest is. subst (λ (l : List Piece). IsLedgerOf (l ++ rest) x.ledger) (sym none) is }

installed-at : (v : ActiveVolume) (after : LedgerView) (pieces : List Piece) → after.capacity ≡ v.ledger.capacity → ((held : List Piece) → IsLedgerOf held v.ledger → IsLedgerOf (held ++ pieces) after)
    → HasChanged [] (extents_at v.volume.volser pieces) v (record v { ledger = after })
installed-at v after pieces capacity held =
    let w = v.volume.volser in
    let there : pieces_on w (extents_at w pieces) ≡ pieces = pieces-at w w pieces (bytes-self w) in
    record {
      volume = refl;
      status = refl;
      group = refl;
      capacity = capacity;
      ledger = λ rest is. subst (λ (l : List Piece). IsLedgerOf (l ++ rest) after) (sym there) (ledger-turn rest pieces after (held rest is));
    }

pub all-installed : (s : DeskState) (set : DataSet) (running after : ActiveVolumes) (place : ℕ) (v x : ActiveVolume) (ledger : LedgerView) (pieces : List Piece) → IsLawful s → AreVolumesOf s running
    → slice_get running.volumes.items place ≡ Some v → x ≡ get_or running.volumes.items place x → ledger.capacity ≡ x.ledger.capacity
    → ((held : List Piece) → IsLedgerOf held x.ledger → IsLedgerOf (held ++ pieces) ledger) → set.extents ≡ extents_named set.dsn s.sets ++ extents_at v.volume.volser pieces
    → after.groups.items ≡ running.groups.items → after.volumes.items ≡ slice_set running.volumes.items place (record x { ledger = ledger }) → AreVolumesOf (with_set s set) after
all-installed s set running after place v x ledger pieces lawful are there read capacity held at groups volumes =
    let w = v.volume.volser in
    let same : x ≡ v = same-at running.volumes.items place v x there read in
    let on : bytes_eq x.volume.volser w ≡ true = ap (λ (y : ActiveVolume). bytes_eq y.volume.volser w) same ∙ bytes-self w in
    let here : HasChanged [] (extents_at w pieces) x (record x { ledger = ledger }) =
    subst (λ (n : List ℕ). HasChanged [] (extents_at n pieces) x (record x { ledger = ledger })) (ap (λ (y : ActiveVolume). y.volume.volser) same) (installed-at x ledger pieces capacity held) in
    follow s (with_set s set) [] (extents_at w pieces) running after (grow-becomes s set (extents_at w pieces) lawful at) are groups
    (subst (AllZip (HasChanged [] (extents_at w pieces)) running.volumes.items) (sym volumes)
    (zip-replaced w (HasChanged [] (extents_at w pieces)) running.volumes.items place x (record x { ledger = ledger }) (there ∙ ap Some (sym same)) on (apart-is s running lawful are w) here
    (λ y off. installed-off w pieces y off)))

-- Room is made.

roomier : (v : ActiveVolume) (after : LedgerView) → after.capacity ≡ v.ledger.capacity → after.gaps ≡ v.ledger.gaps → after.extents ≡ v.ledger.extents → HasChanged [] [] v (record v { ledger = after })
roomier v after capacity gaps extents = record {
  volume = refl;
  status = refl;
  group = refl;
  capacity = capacity;
  ledger = λ rest is. record {
    inside = subst (λ (n : ℕ). All (LiesInside n) rest) (sym capacity) is.inside;
    once = is.once;
    gaps = gaps ∙ (is.gaps ∙ ap (λ (n : ℕ). gaps_of n rest) (sym capacity));
    extents = extents ∙ is.extents;
  };
}

stay-becomes : (s : DeskState) → Becomes s s [] []
stay-becomes s = record { same = record { active = refl; statuses = refl }; others = held_on s; into = λ v l is. is; from = λ v l is. is }

pub all-roomier : (s : DeskState) (running after : ActiveVolumes) (place : ℕ) (x : ActiveVolume) (ledger : LedgerView) → AreVolumesOf s running → place < length running.volumes.items
    → x ≡ get_or running.volumes.items place x → ledger.capacity ≡ x.ledger.capacity → ledger.gaps ≡ x.ledger.gaps → ledger.extents ≡ x.ledger.extents → after.groups.items ≡ running.groups.items
    → after.volumes.items ≡ slice_set running.volumes.items place (record x { ledger = ledger }) → AreVolumesOf s after
all-roomier s running after place x ledger are lt read capacity gaps extents groups volumes =
    follow s s [] [] running after (stay-becomes s) are groups
    (subst (AllZip (HasChanged [] []) running.volumes.items) (sym volumes)
    (zip-set (HasChanged [] []) running.volumes.items place x (record x { ledger = ledger }) (there-is running.volumes.items place x lt read) (roomier x ledger capacity gaps extents) (changed-none [])))

-- what is free there fits then
pub ready-at : (running after : ActiveVolumes) (place : ℕ) (x : ActiveVolume) (ledger : LedgerView) (pieces : List Piece) → place < length running.volumes.items → x ≡ get_or running.volumes.items place x
    → ledger.capacity ≡ x.ledger.capacity → ledger.gaps ≡ x.ledger.gaps → length pieces ≤ ledger.spare → IsFreeAt running place pieces
    → after.volumes.items ≡ slice_set running.volumes.items place (record x { ledger = ledger }) → IsReadyAt after place pieces
ready-at running after place x ledger pieces lt read capacity gaps room free volumes =
    let own = free.free in
    let same : x ≡ free.volume = same-at running.volumes.items place free.volume x free.at read in
    let here : IsFree x pieces = subst (λ (y : ActiveVolume). IsFree y pieces) (sym same) own in
    record {
      volume = record x { ledger = ledger };
      at = ap (λ (l : List ActiveVolume). slice_get l place) volumes ∙ set-there running.volumes.items place (record x { ledger = ledger }) lt;
      ready = record {
        room = room;
        free = record {
          inside = subst (λ (n : ℕ). All (LiesInside n) pieces) (sym capacity) here.inside;
          free = subst (λ (l : List Piece). LieInGaps l pieces) (sym gaps) here.free;
        };
      };
    }

pub ready-if : (result : Result (Unit {0}) AllocError) (running after : ActiveVolumes) (place : ℕ) (x : ActiveVolume) (ledger : LedgerView) → place < length running.volumes.items → x ≡ get_or running.volumes.items place x
    → ledger.capacity ≡ x.ledger.capacity → ledger.gaps ≡ x.ledger.gaps → OnOk result (5 ≤ ledger.spare) → after.volumes.items ≡ slice_set running.volumes.items place (record x { ledger = ledger })
    → OnOk result ((pieces : List Piece) → length pieces ≤ most_pieces → IsFreeAt running place pieces → IsReadyAt after place pieces)
ready-if (Ok done) running after place x ledger lt read capacity gaps room volumes = λ pieces few free. ready-at running after place x ledger pieces lt read capacity gaps (omega (arith, few, room)) free volumes
ready-if (Err error) running after place x ledger lt read capacity gaps room volumes = tt

-- What is granted is free.

pub free-if : {G : Type 0} (items : G → List Piece) (running : ActiveVolumes) (place : ℕ) (v : ActiveVolume) (o : Option G) → slice_get running.volumes.items place ≡ Some v
    → IfSome o (λ g. All (LiesInside v.ledger.capacity) (items g)) → IfSome o (λ g. LieInGaps v.ledger.gaps (items g)) → IfSome o (λ g. IsFreeAt running place (items g))
free-if items running place v None at inside free = tt
free-if items running place v (Some g) at inside free = record { volume = v; at = at; free = record { inside = inside; free = free } }
