-- ALLOC leads from a lawful state to a lawful one.
use Rattle.std.proofs.Common.{◌≡◌, ◌≤◌, ◌<◌, ◌*◌, ◌%◌, ℕ, List, refl, ap, ◌∙◌, subst, arith}
use Rattle.std.specs.Prelude.{Option, None, Some, IfSome, bytes_eq, slice_get, option_and_then, unwrap_or, Ok}
use Rattle.std.specs.List.{list_any}
use Rattle.std.specs.Option.{option_or}
use Rattle.std.proofs.Math.Nat.{mul-mod_left}
use Rattle.sms_construct.specs.Configuration.{Configuration, IsConfiguration, IsDataClass}
use Rattle.sms_construct.specs.Quantities.{Quantities, IsSpace, IsVolumeCount, primary_tracks_of, tracks_in}
use Rattle.sms_construct.specs.declared.alloc.Alloc.{Alloc}
use Rattle.sms_construct.specs.declared.data_class.DataClass.{DataClass}
use Rattle.sms_construct.specs.declared.reply.Reply.{Reply}
use Rattle.sms_construct.specs.declared.reply.Reply.TheVariants as replies
use Rattle.sms_construct.specs.declared.unit.Unit.{Unit as SpaceUnit}
use Rattle.sms_construct.specs.declared.unit.Unit.TheVariants.{Trk, Cyl}
use Rattle.sms_construct.specs.declared.volume.VolumeDef.{VolumeDef}
use Rattle.desk_law.specs.State.{DeskState}
use Rattle.desk_law.specs.Replies.{found_or}
use Rattle.desk_law.specs.Volumes.{tracks_of, volumes_in}
use Rattle.desk_law.specs.Classification.{Classes, classes_of, trace_of, went_through}
use Rattle.desk_law.specs.Allocation.{Wish, alloc_case, ask_of, candidates_of, data_class_of, new_set, space_case}
use Rattle.desk_law.specs.Allocation.{space_of, wish_with, GrantsOn}
use Rattle.desk_law.specs.Candidates.{IsSoundAsk}
use Rattle.desk_law.specs.Rule.{IsSoundAlloc}
use Rattle.desk_law.specs.Lawful.{IsLawful}
use Rattle.desk_law.proofs.AscendLemmas.{volumes-once}
use Rattle.desk_law.proofs.PlaceLemmas.{each-at, filter-each, find-each}
use Rattle.desk_law.proofs.LineLemmas.{after-line, found-line, last-line, made}
use Rattle.desk_law.proofs.GrantLemmas.{each-tracks, grant-given, lawful-new}

-- what holds of each wish: it is under the active configuration, for at least one track and one volume
pub record IsWish (s : DeskState) (wish : Wish) : Type 0 where
  pub active : s.active ≡ Some wish.config
  pub some : 0 < primary_tracks_of wish.space
  pub volumes : 1 ≤ wish.volumes

unit-tracks : (unit : SpaceUnit) (n : ℕ) → 0 < n → 0 < n * tracks_in unit
unit-tracks Trk n some = omega (arith, some)
unit-tracks Cyl n some = omega (arith, some)

space-some : (space : Quantities) → IsSpace space → 0 < primary_tracks_of space
space-some space is = unit-tracks space.unit space.primary (let some = is.some in omega (arith, some))

class-space-is : (class : Option DataClass) (space : Quantities) → IfSome class IsDataClass → option_and_then (λ (c : DataClass). c.space) class ≡ Some space → IsSpace space
class-space-is None space is found = absurd cc
class-space-is (Some c) space is found =
    subst (λ (o : Option Quantities). IfSome o IsSpace) found is.space

space-is : (own : Option Quantities) (class : Option DataClass) (space : Quantities) → IfSome own IsSpace → IfSome class IsDataClass
    → option_or own (option_and_then (λ (c : DataClass). c.space) class) ≡ Some space → IsSpace space
space-is None class space own_is class_is found = class-space-is class space class_is found
space-is (Some own) class space own_is class_is found =
    let same : own ≡ space = cc in subst IsSpace same own_is

class-count-is : (class : Option DataClass) → IfSome class IsDataClass → 1 ≤ unwrap_or (option_and_then (λ (c : DataClass). c.volumes) class) 1
class-count-is None is = omega arith
class-count-is (Some c) is = count-or-one c.volumes is.volumes
  where
    count-or-one : (o : Option ℕ) → IfSome o IsVolumeCount → 1 ≤ unwrap_or o 1
    count-or-one None is = omega arith
    count-or-one (Some n) is = is.0

count-is : (own : Option ℕ) (class : Option DataClass) → IfSome own IsVolumeCount → IfSome class IsDataClass → 1 ≤ unwrap_or (option_or own (option_and_then (λ (c : DataClass). c.volumes) class)) 1
count-is None class own_is class_is = class-count-is class class_is
count-is (Some n) class own_is class_is = own_is.0

if-found : {X : Type 0} (P : X → Type 0) (o : Option X) → ((x : X) → o ≡ Some x → P x) → IfSome o P
if-found P None all = tt
if-found P (Some x) all = all x refl

class-is : (config : Configuration) (name : List ℕ) → IsConfiguration config → IfSome (data_class_of config name) IsDataClass
class-is config name is =
    if-found IsDataClass (data_class_of config name) (λ c found. find-each IsDataClass (λ (k : DataClass). bytes_eq k.name name) config.data_classes c is.classes found)

wish-is-with : (s : DeskState) (alloc : Alloc) (config : Configuration) (classes : Classes) (space : Quantities) → IsLawful s → IsSoundAlloc alloc → s.active ≡ Some config
    → space_of alloc (data_class_of config classes.values.dataclas) ≡ Some space → IsWish s (wish_with alloc config classes space)
wish-is-with s alloc config classes space lawful sound active found =
    let good : IsConfiguration config = subst (λ (o : Option Configuration). IfSome o IsConfiguration) active lawful.config in
    let class = class-is config classes.values.dataclas good in
    record {
      active = active;
      some = space-some space (space-is alloc.space (data_class_of config classes.values.dataclas) space sound.space class found);
      volumes = count-is alloc.volumes (data_class_of config classes.values.dataclas) sound.volumes class;
    }

pub wish-is : (s : DeskState) (job : List ℕ) (alloc : Alloc) (wish : Wish) → IsLawful s → IsSoundAlloc alloc → alloc_case s job alloc ≡ Ok wish → IsWish s wish
wish-is s job alloc wish lawful sound is =
    after-line _ _ wish (IsWish s wish) is (λ config e1 e2.
    after-line _ _ wish (IsWish s wish) e2 (λ u e3 e4.
    after-line (went_through (classes_of config job alloc)) (space_case alloc config) wish (IsWish s wish) e4 (λ classes e5 e6.
    after-line (found_or (replies.NoQuantity (trace_of classes)) (space_of alloc (data_class_of config classes.values.dataclas))) (λ (space : Quantities). Ok (wish_with alloc config classes space)) wish (IsWish s wish) e6 (λ space e7 e8.
    subst (IsWish s) (last-line (wish_with alloc config classes space) wish e8)
    (wish-is-with s alloc config classes space lawful sound (found-line replies.NoConfig s.active config e1)
    (found-line (replies.NoQuantity (trace_of classes)) (space_of alloc (data_class_of config classes.values.dataclas)) space e7))))))

unit-whole : (unit : SpaceUnit) (n : ℕ) → n * tracks_in unit % tracks_in unit ≡ 0
unit-whole unit n = mul-mod_left n (tracks_in unit)

-- the tracks of a candidate
candidate-tracks : (s : DeskState) (wish : Wish) (volume : VolumeDef) (position : ℕ) → IsLawful s → s.active ≡ Some wish.config → slice_get (candidates_of wish) position ≡ Some volume
    → tracks_of volume.volser (volumes_in s.active) ≡ volume.tracks
candidate-tracks s wish volume position lawful active there =
    let good : IsConfiguration wish.config = subst (λ (o : Option Configuration). IfSome o IsConfiguration) active lawful.config in
    let P : VolumeDef → Type 0 = λ (v : VolumeDef). tracks_of v.volser wish.config.volumes ≡ v.tracks in
    let each = filter-each P (λ (v : VolumeDef). list_any (bytes_eq v.group) wish.classes.values.groups) wish.config.volumes (each-tracks wish.config.volumes (λ n. volumes-once n wish.config.volumes good.volsers)) in
    let own : tracks_of volume.volser wish.config.volumes ≡ volume.tracks = each-at P (candidates_of wish) position volume each there in
    ap (λ (o : Option Configuration). tracks_of volume.volser (volumes_in o)) active ∙ own

-- a new data set
pub granted-keeps : (s : DeskState) (alloc : Alloc) (wish : Wish) (volume : VolumeDef) (position : ℕ) (reply : Reply) (after : DeskState) → IsLawful s → IsWish s wish
    → slice_get (candidates_of wish) position ≡ Some volume → GrantsOn s alloc wish volume reply after → IsLawful after
granted-keeps s alloc wish volume position reply after lawful is there grants =
    let sound : IsSoundAsk (ask_of wish) = record { some = is.some; whole = unit-whole wish.space.unit wish.space.primary } in
    let given = grant-given s volume (ask_of wish) 0 grants.pieces lawful sound (omega arith) (candidate-tracks s wish volume position lawful is.active there) grants.granted in
    made _ after _ reply (lawful-new s (new_set alloc wish volume grants.pieces) volume.volser grants.pieces lawful refl (unit-whole wish.space.unit wish.space.secondary) given) grants.makes
