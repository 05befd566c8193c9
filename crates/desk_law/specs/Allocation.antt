-- ALLOC (docs/manual/rules.md, "ALLOC").
use Rattle.std.specs.Prelude.{ℕ, ◌≡◌, Bool, false, List, [], bytes_eq, filter, find, Option, Some, None, is_some}
use Rattle.std.specs.Prelude.{option_and_then, option_map, unwrap_or, Result, Ok, MatchResult, if◌then◌else◌}
use Rattle.std.specs.List.{list_any}
use Rattle.std.specs.Option.{option_or}
use Rattle.desk_common.specs.Steps.{◌⊳◌}
use Rattle.sms_construct.specs.Configuration.{Configuration}
use Rattle.sms_construct.specs.Quantities.{Quantities, primary_tracks_of, secondary_tracks_of}
use Rattle.sms_construct.specs.declared.alloc.Alloc.{Alloc}
use Rattle.sms_construct.specs.declared.data_class.DataClass.{DataClass}
use Rattle.sms_construct.specs.declared.data_set.DataSet.{DataSet}
use Rattle.sms_construct.specs.declared.eattr.Eattr.{Eattr}
use Rattle.sms_construct.specs.declared.eattr.Eattr.TheVariants.{No}
use Rattle.sms_construct.specs.declared.reply.Reply.{Reply}
use Rattle.sms_construct.specs.declared.reply.Reply.TheVariants as replies
use Rattle.sms_construct.specs.declared.storage_class.StorClass.{StorClass}
use Rattle.sms_construct.specs.declared.volume.VolumeDef.{VolumeDef}
use Rattle.track_ledger.specs.declared.piece.Piece.{Piece}
use Rattle.desk_law.specs.State.{DeskState, set_named, with_set}
use Rattle.desk_law.specs.Extents.{extents_at}
use Rattle.desk_law.specs.Replies.{found_or, reply_if, Leaves, Makes}
use Rattle.desk_law.specs.Classification.{Classes, classes_of, is_null, trace_of, went_through}
use Rattle.desk_law.specs.Candidates.{Ask, grant_on, Chosen}

-- the data class of this name
abbrev pub data_class_of : Configuration → List ℕ → Option DataClass
data_class_of config name = find (λ class. bytes_eq class.name name) config.data_classes

-- the space that the request names, else the one of its data class
abbrev pub space_of : Alloc → Option DataClass → Option Quantities
space_of alloc class = option_or alloc.space (option_and_then (λ class. class.space) class)

-- the number of volumes that the request names, else the one of its data class, else 1
abbrev pub volume_count_of : Alloc → Option DataClass → ℕ
volume_count_of alloc class = unwrap_or (option_or alloc.volumes (option_and_then (λ class. class.volumes) class)) 1

-- whether it may lie on cylinder-managed space: as the request says, else as its data class does, else not
abbrev pub eattr_of : Alloc → Option DataClass → Eattr
eattr_of alloc class = unwrap_or (option_or alloc.eattr (option_map (λ class. class.eattr) class)) No

-- what a new data set is to get
pub record Wish : Type 0 where
  pub config : Configuration
  pub classes : Classes
  pub space : Quantities
  pub volumes : ℕ
  pub eattr : Eattr

-- what a new data set is to get when the classification came to these classes and the request or its data class names
-- this space
abbrev pub wish_with : Alloc → Configuration → Classes → Quantities → Wish
wish_with alloc config classes space =
    let class = data_class_of config classes.values.dataclas in
    record {
      config = config;
      classes = classes;
      space = space;
      volumes = volume_count_of alloc class;
      eattr = eattr_of alloc class;
    }

-- the lines behind the classification: there is no space
abbrev pub space_case : Alloc → Configuration → Classes → Result Wish Reply
space_case alloc config classes =
    found_or (replies.NoQuantity (trace_of classes)) (space_of alloc (data_class_of config classes.values.dataclas)) ⊳
    λ space. Ok (wish_with alloc config classes space)

-- the lines of ALLOC up to the choice of a volume: no configuration; the name is in use; the classification stops; no
-- space
abbrev pub alloc_case : DeskState → List ℕ → Alloc → Result Wish Reply
alloc_case s job alloc =
    found_or replies.NoConfig s.active ⊳ λ config.
    reply_if replies.NameInUse (is_some (set_named alloc.input.dsn s.sets)) ⊳ λ _.
    went_through (classes_of config job alloc) ⊳ λ classes.
    space_case alloc config classes

-- the storage class of this name
abbrev pub storage_class_of : Configuration → List ℕ → Option StorClass
storage_class_of config name = find (λ class. bytes_eq class.name name) config.storage_classes

-- the order counts in which the storage groups are listed
abbrev pub has_tiers : Option StorClass → Bool
has_tiers None = false
has_tiers (Some class) = class.multi_tier

-- the listed storage groups, where their order counts
abbrev pub tiers_of : Wish → List (List ℕ)
tiers_of wish =
    if has_tiers (storage_class_of wish.config wish.classes.values.storclas) then wish.classes.values.groups else []

-- what is asked of the volumes: the primary quantity
abbrev pub ask_of : Wish → Ask
ask_of wish = record {
  unit = wish.space.unit;
  tracks = primary_tracks_of wish.space;
  volumes = wish.volumes;
  eattr = wish.eattr;
  tiers = tiers_of wish;
}

-- the volumes of the listed storage groups
abbrev pub candidates_of : Wish → List VolumeDef
candidates_of wish = filter (λ volume. list_any (bytes_eq volume.group) wish.classes.values.groups) wish.config.volumes

-- a class, where it isn't null
abbrev pub class_if_any : List ℕ → Option (List ℕ)
class_if_any class = if is_null class then None else Some class

-- the new data set with these pieces of the volume
abbrev pub new_set : Alloc → Wish → VolumeDef → List Piece → DataSet
new_set alloc wish volume pieces = record {
  dsn = alloc.input.dsn;
  dataclas = class_if_any wish.classes.values.dataclas;
  storclas = wish.classes.values.storclas;
  mgmtclas = class_if_any wish.classes.values.mgmtclas;
  group = volume.group;
  unit = wish.space.unit;
  secondary = secondary_tracks_of wish.space;
  volumes = wish.volumes;
  day = alloc.day;
  retpd = alloc.retpd;
  used = 0;
  extents = extents_at volume.volser pieces;
  eattr = wish.eattr;
}

-- the volume grants the primary quantity, and the data set is catalogued
pub record GrantsOn (s : DeskState) (alloc : Alloc) (wish : Wish) (volume : VolumeDef) (reply : Reply)
    (after : DeskState) : Type 0 where
  pub pieces : List Piece
  pub granted : grant_on s volume (ask_of wish) 0 ≡ Some pieces
  pub makes : Makes (with_set s (new_set alloc wish volume pieces))
      (replies.Granted (new_set alloc wish volume pieces) (trace_of wish.classes)) reply after

-- a volume that may be chosen grants the space, or none can
abbrev pub GrantRule : DeskState → Alloc → Wish → Reply → DeskState → Type 0
GrantRule s alloc wish reply after =
    Chosen s (ask_of wish) (candidates_of wish)
    (Leaves s (replies.NoVolume (trace_of wish.classes)) reply after)
    (λ volume. GrantsOn s alloc wish volume reply after)

-- the first line that answers, or else the grant
abbrev pub AllocRule : DeskState → List ℕ → Alloc → Reply → DeskState → Type 0
AllocRule s job alloc reply after =
    MatchResult (alloc_case s job alloc) (λ wish. GrantRule s alloc wish reply after)
    (λ answer. Leaves s answer reply after)
