-- What is few in a lawful state: the volumes, the extents of a data set, the pieces of a grant.
use Rattle.std.proofs.Common.{◌≡◌, ◌≤◌, ◌<◌, ℕ, zero, suc, ◌+◌, ◌*◌, Bool, true, false, cond, List, [], ◌∷◌, length}
use Rattle.std.proofs.Common.{refl, sym, ap, ◌∙◌, arith}
use Rattle.std.specs.Prelude.{Option, Some, None, IfSome, map, option_map, bytes_eq, slice_get, ◌^◌}
use Rattle.std.specs.List.{AllByRecursion}
use Rattle.std.proofs.lemmas.List.{length-map}
use Rattle.std.proofs.lemmas.Option.{slice_get-map}
use Rattle.desk_common.specs.Limits.{most_extents, most_pieces}
use Rattle.sms_construct.specs.Configuration.{Configuration, IsConfiguration}
use Rattle.sms_construct.specs.declared.data_set.DataSet.{DataSet}
use Rattle.sms_construct.specs.declared.extent.Extent.{Extent}
use Rattle.sms_construct.specs.declared.volume.VolumeDef.{VolumeDef}
use Rattle.track_ledger.specs.declared.piece.Piece.{Piece}
use Rattle.desk_law.specs.State.{DeskState}
use Rattle.desk_law.specs.Candidates.{grant_on}
use Rattle.desk_law.specs.Extents.{is_among}
use Rattle.desk_law.specs.Lawful.{IsInside, IsLawful, IsLawfulSet}
use Rattle.desk_law.specs.Volumes.{tracks_of, volumes_in}
use Rattle.desk_law.proofs.AscendLemmas.{active-volume-once}
use Rattle.desk_law.proofs.ByteLemmas.{bytes-turned}
use Rattle.desk_law.proofs.CountLemmas.{count_on, count-cons}
use Rattle.desk_law.proofs.GrantLemmas.{each-tracks, grant-given}
use Rattle.desk_law.proofs.PlaceLemmas.{each-at}
use Rattle.desk_law.proofs.SetLemmas.{each-named}
use Rattle.sms_volumes.specs.Asking.{IsAsked, ask_of}
use Rattle.sms_volumes.specs.Holding.{AreVolumesOf}
use Rattle.sms_volumes.specs.declared.active_volume.ActiveVolume.{ActiveVolume}
use Rattle.sms_volumes.specs.declared.active_volumes.ActiveVolumes.{ActiveVolumes}
use Rattle.sms_volumes.specs.declared.asked.Asked.{Asked}
use Rattle.desk_state.specs.Standing.{IsSomeState}
use Rattle.desk_state.specs.Catalog.{set_in}
use Rattle.desk_state.specs.declared.running.Running.{Running}
use Rattle.desk_state.proofs.OkLemmas.{on-found}

-- how many of the extents lie on volumes that weren't seen
abbrev pub unseen : List (List ℕ) → List Extent → ℕ
unseen seen [] = 0
unseen seen (e ∷ es) = cond (is_among e.volser seen) 0 1 + unseen seen es

one-at-most : (b : Bool) → cond b 0 1 ≤ 1
one-at-most true = omega arith
one-at-most false = omega arith

unseen-at : (w : List ℕ) (seen : List (List ℕ)) (e : Extent) (es : List Extent) (b : Bool) → bytes_eq e.volser w ≡ b
    → unseen seen es ≤ count_on w es + unseen (w ∷ seen) es → unseen seen (e ∷ es) ≤ count_on w (e ∷ es) + unseen (w ∷ seen) (e ∷ es)
unseen-at w seen e es true is rest =
    let counted : cond (bytes_eq e.volser w) (suc zero) zero ≡ suc zero = rw is refl in
    let one = one-at-most (is_among e.volser seen) in
    omega (arith, rest, count-cons w e es, counted, one)
unseen-at w seen e es false is rest =
    let same : is_among e.volser (w ∷ seen) ≡ is_among e.volser seen = rw (bytes-turned e.volser w is) refl in
    let both : cond (is_among e.volser (w ∷ seen)) zero (suc zero) ≡ cond (is_among e.volser seen) zero (suc zero) = ap (λ b. cond b zero (suc zero)) same in
    omega (arith, rest, count-cons w e es, both)

unseen-more : (w : List ℕ) (seen : List (List ℕ)) (es : List Extent) → unseen seen es ≤ count_on w es + unseen (w ∷ seen) es
unseen-more w seen [] = omega arith
unseen-more w seen (e ∷ es) = unseen-at w seen e es _ refl (unseen-more w seen es)

unseen-front : (seen : List (List ℕ)) (es : List Extent) → ((v : List ℕ) → count_on v es ≤ 16) → unseen [] es ≤ 16 * length seen + unseen seen es
unseen-front [] es few = omega arith
unseen-front (w ∷ seen) es few = omega (arith, unseen-front seen es few, unseen-more w seen es, few w)

unseen-all : (es : List Extent) → unseen [] es ≡ length es
unseen-all [] = refl
unseen-all (e ∷ es) = omega (arith, unseen-all es)

-- each extent lies on a volume of the list
among-at : (v : VolumeDef) (w : List ℕ) (volumes : List VolumeDef) (b : Bool) → bytes_eq v.volser w ≡ b → (0 < tracks_of w volumes → is_among w (map (λ (x : VolumeDef). x.volser) volumes) ≡ true)
    → 0 < tracks_of w (v ∷ volumes) → is_among w (map (λ (x : VolumeDef). x.volser) (v ∷ volumes)) ≡ true
among-at v w volumes true is rest some = rw is refl
among-at v w volumes false is rest some = rw is (rest (rw is at some))

among : (w : List ℕ) (volumes : List VolumeDef) → 0 < tracks_of w volumes → is_among w (map (λ (x : VolumeDef). x.volser) volumes) ≡ true
among w [] some = absurd (omega (arith, some))
among w (v ∷ volumes) some = among-at v w volumes _ refl (among w volumes) some

none-unseen : (volumes : List VolumeDef) (es : List Extent) → AllByRecursion (IsInside volumes) es → unseen (map (λ (x : VolumeDef). x.volser) volumes) es ≡ 0
none-unseen volumes [] all = refl
none-unseen volumes (e ∷ es) all =
    let some = all.0.0 in
    let within = all.0.1 in
    let there : is_among e.volser (map (λ (x : VolumeDef). x.volser) volumes) ≡ true = among e.volser volumes (omega (arith, some, within)) in
    let none : cond (is_among e.volser (map (λ (x : VolumeDef). x.volser) volumes)) zero (suc zero) ≡ zero = rw there refl in
    omega (arith, none, none-unseen volumes es all.1)

-- at most 16 extents on each of at most 1,024 volumes
few-extents : (volumes : List VolumeDef) (set : DataSet) → IsLawfulSet volumes set → length volumes ≤ 1024 → length set.extents ≤ 16384
few-extents volumes set lawful most =
    let names = map (λ (x : VolumeDef). x.volser) volumes in
    omega (arith, unseen-front names set.extents lawful.few, none-unseen volumes set.extents lawful.inside, unseen-all set.extents, length-map volumes (λ (x : VolumeDef). x.volser), most)

-- a configuration has few volumes
pub few-in : (o : Option Configuration) → IfSome o IsConfiguration → length (volumes_in o) ≤ 1024
few-in None is = omega arith
few-in (Some config) is = is.few

-- there are few running volumes
pub volumes-few : (running : Running) → IsSomeState running → length running.volumes.volumes.items < 2 ^ 32
volumes-few running some =
    let as_many : length (volumes_in some.state.active) ≡ length running.volumes.volumes.items =
    sym (ap length some.stands.volumes.volumes_are) ∙ length-map running.volumes.volumes.items (λ (v : ActiveVolume). v.volume) in
    omega (arith, as_many, few-in some.state.active some.lawful.config)

-- what the catalog finds is a lawful data set
pub found-lawful : (running : Running) (some : IsSomeState running) (dsn : List ℕ) (set : DataSet) → set_in dsn running.catalog.sets ≡ Some set → IsLawfulSet (volumes_in some.state.active) set
found-lawful running some dsn set found =
    each-named (IsLawfulSet (volumes_in some.state.active)) dsn some.state.sets set some.lawful.sets (sym (some.stands.sets dsn) ∙ found)

-- with few extents
pub found-few : (running : Running) → IsSomeState running → (dsn : List ℕ) → IfSome (set_in dsn running.catalog.sets) (λ (set : DataSet). length set.extents < 2 ^ 32)
found-few running some dsn = on-found (λ (set : DataSet). length set.extents < 2 ^ 32) (set_in dsn running.catalog.sets) (λ set found.
    let few = few-extents (volumes_in some.state.active) set (found-lawful running some dsn set found) (few-in some.state.active some.lawful.config) in omega (arith, few))

-- a running volume grants few pieces
pub grant-few : (s : DeskState) (running : ActiveVolumes) (place : ℕ) (volume : ActiveVolume) (asked : Asked) (held : ℕ) (pieces : List Piece) → IsLawful s → AreVolumesOf s running → IsAsked asked → held ≤ most_extents
    → slice_get running.volumes.items place ≡ Some volume → grant_on s volume.volume (ask_of asked) held ≡ Some pieces → length pieces ≤ most_pieces
grant-few s running place volume asked held pieces lawful are is most at granted =
    let there : slice_get (volumes_in s.active) place ≡ Some volume.volume =
    ap (λ (l : List VolumeDef). slice_get l place) (sym are.volumes_are)
    ∙ (slice_get-map (λ (v : ActiveVolume). v.volume) running.volumes.items place ∙ ap (option_map (λ (v : ActiveVolume). v.volume)) at) in
    let tracks = each-at (λ (v : VolumeDef). tracks_of v.volser (volumes_in s.active) ≡ v.tracks) (volumes_in s.active) place volume.volume (each-tracks (volumes_in s.active) (λ n. active-volume-once s.active n lawful.config)) there in
    let given = grant-given s volume.volume (ask_of asked) held pieces lawful (record { some = is.some; whole = is.whole }) most tracks granted in
    omega (arith, given.few)
