-- The volume that bars a configuration.
use Rattle.std.proofs.Common.{◌≡◌, ℕ, suc, Bool, true, false, List, [], ◌∷◌, length, map, refl, sym, ap, ◌∙◌, arith}
use Rattle.std.specs.Prelude.{Option, None, Some, ◌&&◌, bytes_eq, find, nat_lt, option_map}
use Rattle.std.specs.List.{AllByRecursion}
use Rattle.std.proofs.lemmas.Bool.Decides.{nat_tests}
use Rattle.sms_construct.specs.Configuration.{Configuration}
use Rattle.sms_construct.specs.declared.extent.Extent.{Extent}
use Rattle.sms_construct.specs.declared.volume.VolumeDef.{VolumeDef}
use Rattle.desk_law.specs.State.{DeskState}
use Rattle.desk_law.specs.Activation.{first_barred}
use Rattle.desk_law.specs.Extents.{extents_of, is_used, pieces_on}
use Rattle.desk_law.specs.Volumes.{tracks_of}
use Rattle.sms_volumes.specs.Inner.Barring.{bars, running_barred}
use Rattle.sms_volumes.specs.Holding.{AreVolumesOf, IsVolumeOf}
use Rattle.sms_volumes.specs.declared.active_group.ActiveGroup.{ActiveGroup}
use Rattle.sms_volumes.specs.declared.active_volume.ActiveVolume.{ActiveVolume}
use Rattle.sms_volumes.specs.declared.active_volumes.ActiveVolumes.{ActiveVolumes}

some-more : (n : ℕ) → nat_lt 0 (suc n) ≡ true
some-more n = grind (arith, nat_tests)

used-count-at : (v : List ℕ) (e : Extent) (es : List Extent) (b : Bool) → bytes_eq e.volser v ≡ b → is_used v es ≡ nat_lt 0 (length (pieces_on v es)) → is_used v (e ∷ es) ≡ nat_lt 0 (length (pieces_on v (e ∷ es)))
used-count-at v e es true is rest = rw is (sym (some-more (length (pieces_on v es))))
used-count-at v e es false is rest = rw is rest

-- some extent lies on the volume where there is a piece of it
pub used-count : (v : List ℕ) (es : List Extent) → is_used v es ≡ nat_lt 0 (length (pieces_on v es))
used-count v [] = refl
used-count v (e ∷ es) = used-count-at v e es _ refl (used-count v es)

-- the volume bars a configuration with these volumes, by the state
abbrev pub bars_by : DeskState → List VolumeDef → VolumeDef → Bool
bars_by s others volume = is_used volume.volser (extents_of s.sets) && nat_lt (tracks_of volume.volser others) volume.tracks

bars-is : (s : DeskState) (groups : List ActiveGroup) (others : List VolumeDef) (v : ActiveVolume) → IsVolumeOf s groups v → bars others v ≡ bars_by s others v.volume
bars-is s groups others v is =
    let used : nat_lt 0 v.ledger.extents ≡ is_used v.volume.volser (extents_of s.sets) =
    ap (nat_lt 0) is.ledger.extents ∙ sym (used-count v.volume.volser (extents_of s.sets)) in
    ap (λ b. b && nat_lt (tracks_of v.volume.volser others) v.volume.tracks) used

found-at : (s : DeskState) (others : List VolumeDef) (v : ActiveVolume) (volumes : List ActiveVolume) (b : Bool) → bars others v ≡ b → bars others v ≡ bars_by s others v.volume
    → option_map (λ (x : ActiveVolume). x.volume) (running_barred others volumes) ≡ find (bars_by s others) (map (λ (x : ActiveVolume). x.volume) volumes)
    → option_map (λ (x : ActiveVolume). x.volume) (running_barred others (v ∷ volumes)) ≡ find (bars_by s others) (map (λ (x : ActiveVolume). x.volume) (v ∷ volumes))
found-at s others v volumes true is same rest =
    let there : bars_by s others v.volume ≡ true = sym same ∙ is in rw (is, there) refl
found-at s others v volumes false is same rest =
    let there : bars_by s others v.volume ≡ false = sym same ∙ is in rw (is, there) rest

barred-of : (s : DeskState) (groups : List ActiveGroup) (others : List VolumeDef) (volumes : List ActiveVolume) → AllByRecursion (IsVolumeOf s groups) volumes
    → option_map (λ (x : ActiveVolume). x.volume) (running_barred others volumes) ≡ find (bars_by s others) (map (λ (x : ActiveVolume). x.volume) volumes)
barred-of s groups others [] all = refl
barred-of s groups others (v ∷ volumes) all = found-at s others v volumes _ refl (bars-is s groups others v all.0) (barred-of s groups others volumes all.1)

pub barred-is : (s : DeskState) (running : ActiveVolumes) (config : Configuration) → AreVolumesOf s running
    → option_map (λ (x : ActiveVolume). x.volume) (running_barred config.volumes running.volumes.items) ≡ first_barred s config
barred-is s running config are =
    barred-of s running.groups.items config.volumes running.volumes.items are.each_volume ∙ ap (find (bars_by s config.volumes)) are.volumes_are

pub barred-shown : (s : DeskState) (running : ActiveVolumes) (config : Configuration) (found : Option ActiveVolume) → AreVolumesOf s running → found ≡ running_barred config.volumes running.volumes.items
    → option_map (λ (x : ActiveVolume). x.volume.volser) found ≡ option_map (λ (d : VolumeDef). d.volser) (first_barred s config)
barred-shown s running config None are is = ap (option_map (λ (d : VolumeDef). d.volser)) (ap (option_map (λ (x : ActiveVolume). x.volume)) is ∙ barred-is s running config are)
barred-shown s running config (Some v) are is = ap (option_map (λ (d : VolumeDef). d.volser)) (ap (option_map (λ (x : ActiveVolume). x.volume)) is ∙ barred-is s running config are)
