-- EXTEND leads from a lawful state to a lawful one.
use Rattle.std.proofs.Common.{◌≡◌, ℕ, Bool, true, false, List, [], length, refl, subst, arith}
use Rattle.std.specs.Prelude.{Option, None, Some, bytes_eq, option_map, slice_get, not, nat_eq}
use Rattle.std.proofs.lemmas.Bool.Decides.{nat_tests}
use Rattle.sms_construct.specs.declared.data_set.DataSet.{DataSet}
use Rattle.sms_construct.specs.declared.extent.Extent.{Extent}
use Rattle.sms_construct.specs.declared.reply.Reply.{Reply}
use Rattle.sms_construct.specs.declared.volume.VolumeDef.{VolumeDef}
use Rattle.track_ledger.specs.declared.piece.Piece.{Piece}
use Rattle.desk_law.specs.State.{DeskState, with_set}
use Rattle.desk_law.specs.Extents.{extents_at, is_among, pieces_on, volumes_of}
use Rattle.desk_law.specs.Volumes.{tracks_of, volumes_in, volumes_of_group}
use Rattle.desk_law.specs.Candidates.{IsSoundAsk, grant_on}
use Rattle.desk_law.specs.Extension.{ask_more, bars_growth, extended, first_volume, growth_on, last_volume, others_of}
use Rattle.desk_law.specs.Extension.{Extends, ExtendsOn}
use Rattle.desk_law.specs.Lawful.{IsLawful, IsLawfulSet, IsWhole}
use Rattle.desk_law.proofs.AscendLemmas.{active-volume-once}
use Rattle.desk_law.proofs.CaseLemmas.{IsExtendable}
use Rattle.desk_law.proofs.PlaceLemmas.{each-at, filter-each, filter-passes}
use Rattle.desk_law.proofs.LineLemmas.{made}
use Rattle.desk_law.proofs.SetLemmas.{each-named}
use Rattle.desk_law.proofs.SpreadLemmas.{free-volume}
use Rattle.desk_law.proofs.GrantLemmas.{each-tracks, grant-given, last-is, lawful-extended}

mapped : (w : List ℕ) (o : Option (List Piece)) (added : List Extent) (C : Type 0) → option_map (extents_at w) o ≡ Some added → ((pieces : List Piece) → o ≡ Some pieces → extents_at w pieces ≡ added → C) → C
mapped w None added C is then = absurd cc
mapped w (Some pieces) added C is then = then pieces refl cc

-- what the volume grants where it isn't barred
pub growth-at : (s : DeskState) (set : DataSet) (volume : VolumeDef) (added : List Extent) (C : Type 0) (b : Bool) → bars_growth s volume ≡ b
    → growth_on s set (Some volume) ≡ Some added
    → ((pieces : List Piece) → grant_on s volume (ask_more set) (length (pieces_on volume.volser set.extents)) ≡ Some pieces → extents_at volume.volser pieces ≡ added → C) → C
growth-at s set volume added C true bars is next =
    let now : None ≡ Some added = rw bars at is in absurd cc
growth-at s set volume added C false bars is next =
    let now : option_map (extents_at volume.volser) (grant_on s volume (ask_more set) (length (pieces_on volume.volser set.extents))) ≡ Some added = rw bars at is in
    mapped volume.volser _ added C now next

ask-sound : (set : DataSet) → IsWhole set → nat_eq set.secondary 0 ≡ false → IsSoundAsk (ask_more set)
ask-sound set whole some = record { some = grind (arith, nat_tests); whole = whole }

-- the last volume grants
pub grown-keeps : (s : DeskState) (dsn : List ℕ) (set : DataSet) (o : Option VolumeDef) (added : List Extent) (reply : Reply) (after : DeskState) → IsLawful s → IsExtendable s dsn set
    → last_volume s set.extents ≡ o → growth_on s set o ≡ Some added → Extends s set added reply after → IsLawful after
grown-keeps s dsn set None added reply after lawful may last is extends = absurd cc
grown-keeps s dsn set (Some volume) added reply after lawful may last is extends =
    growth-at s set volume added (IsLawful after) _ refl is (λ pieces granted there_is.
    let old = each-named (IsLawfulSet (volumes_in s.active)) dsn s.sets set lawful.sets may.found in
    let there = last-is s set.extents volume last in
    let held = length (pieces_on volume.volser set.extents) in
    let given = grant-given s volume (ask_more set) held pieces lawful (ask-sound set old.whole may.some) (old.few volume.volser) there.1 granted in
    made _ after _ reply (subst (λ (es : List Extent). IsLawful (with_set s (extended set es))) there_is
    (lawful-extended s dsn volume.volser held set pieces lawful may.found refl given)) extends)

not-true : (b : Bool) → not b ≡ true → b ≡ false
not-true true is = absurd cc
not-true false is = refl

-- a volume of the group on which the data set doesn't lie
pub record IsOther (s : DeskState) (set : DataSet) (volume : VolumeDef) : Type 0 where
  pub tracks : tracks_of volume.volser (volumes_in s.active) ≡ volume.tracks
  pub off : is_among volume.volser (volumes_of set.extents) ≡ false

pub other-is : (s : DeskState) (set : DataSet) (o : Option VolumeDef) (volume : VolumeDef) (position : ℕ) → IsLawful s → slice_get (others_of s set o) position ≡ Some volume → IsOther s set volume
other-is s set None volume position lawful there = absurd cc
other-is s set (Some first) volume position lawful there =
    let p : VolumeDef → Bool = λ (v : VolumeDef). not (is_among v.volser (volumes_of set.extents)) in
    let P : VolumeDef → Type 0 = λ (v : VolumeDef). tracks_of v.volser (volumes_in s.active) ≡ v.tracks in
    let all = each-tracks (volumes_in s.active) (λ n. active-volume-once s.active n lawful.config) in
    let of_group = filter-each P (λ (v : VolumeDef). bytes_eq v.group first.group) (volumes_in s.active) all in
    let passes : p volume ≡ true = each-at (λ (v : VolumeDef). p v ≡ true) (others_of s set (Some first)) position volume (filter-passes p (volumes_of_group s first.group)) there in
    record {
      tracks = each-at P (others_of s set (Some first)) position volume (filter-each P p (volumes_of_group s first.group) of_group) there;
      off = not-true _ passes;
    }

-- a further volume grants
pub spread-keeps : (s : DeskState) (dsn : List ℕ) (set : DataSet) (volume : VolumeDef) (position : ℕ) (reply : Reply) (after : DeskState) → IsLawful s → IsExtendable s dsn set
    → slice_get (others_of s set (first_volume s set.extents)) position ≡ Some volume → ExtendsOn s set volume reply after → IsLawful after
spread-keeps s dsn set volume position reply after lawful may there extends =
    let old = each-named (IsLawfulSet (volumes_in s.active)) dsn s.sets set lawful.sets may.found in
    let other = other-is s set (first_volume s set.extents) volume position lawful there in
    let given = grant-given s volume (ask_more set) 0 extends.pieces lawful (ask-sound set old.whole may.some) (omega arith) other.tracks extends.granted in
    made _ after _ reply (lawful-extended s dsn volume.volser 0 set extends.pieces lawful may.found (free-volume volume.volser set.extents [] refl other.off) given) extends.extends
