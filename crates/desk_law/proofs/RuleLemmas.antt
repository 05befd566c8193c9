-- Each rule leads from a lawful state to a lawful one.
use Rattle.std.proofs.Common.{◌≡◌, ◌<◌, ℕ, List, refl, subst, arith}
use Rattle.std.specs.Prelude.{Some, max}
use Rattle.sms_construct.specs.Quantities.{tracks_in}
use Rattle.sms_construct.specs.declared.alloc.Alloc.{Alloc}
use Rattle.sms_construct.specs.declared.data_set.DataSet.{DataSet}
use Rattle.sms_construct.specs.declared.reply.Reply.{Reply}
use Rattle.sms_construct.specs.declared.request.Op.{Op}
use Rattle.sms_construct.specs.declared.request.Op.TheVariants as ops
use Rattle.sms_construct.specs.declared.unit.Unit.{Unit as SpaceUnit}
use Rattle.sms_construct.specs.declared.unit.Unit.TheVariants.{Trk, Cyl}
use Rattle.desk_law.specs.State.{DeskState, set_named, with_set}
use Rattle.desk_law.specs.Extents.{front_tracks, with_extents}
use Rattle.desk_law.specs.Extension.{last_volume}
use Rattle.desk_law.specs.Volumes.{volumes_in}
use Rattle.desk_law.specs.Releasing.{kept_of, tracks_kept}
use Rattle.desk_law.specs.Rule.{IsSound, IsSoundAlloc, Rule}
use Rattle.desk_law.specs.Lawful.{IsInside, IsLawful, IsLawfulSet, LiesInPart}
use Rattle.desk_law.proofs.LineLemmas.{left, made}
use Rattle.desk_law.proofs.SetLemmas.{each-named, lawful-changed, lawful-without}
use Rattle.desk_law.proofs.FrontLemmas.{cut-inside, cut-parted, front-count, front-each, front-some, front-times}
use Rattle.desk_law.proofs.FrontLemmas.{rounded-some}
use Rattle.desk_law.proofs.StatusLemmas.{lawful-activated, lawful-varied}
use Rattle.desk_law.proofs.DeckLemmas.{configures-is}
use Rattle.desk_law.proofs.AllocationLemmas.{granted-keeps, wish-is}
use Rattle.desk_law.proofs.CaseLemmas.{on-rule}
use Rattle.desk_law.proofs.ExtensionLemmas.{grown-keeps, spread-keeps}

-- a data set with its own extents
lawful-noted : (s : DeskState) (dsn : List ℕ) (tracks : ℕ) (set : DataSet) → IsLawful s → set_named dsn s.sets ≡ Some set → IsLawful (with_set s (with_extents set tracks set.extents))
lawful-noted s dsn tracks set lawful found =
    let old = each-named (IsLawfulSet (volumes_in s.active)) dsn s.sets set lawful.sets found in
    lawful-changed s dsn set tracks set.extents lawful found
    (record { some = old.some; inside = old.inside; parted = old.parted; few = old.few; whole = old.whole })
    (λ v t. let once = lawful.once v t in omega (arith, once))

unit-some : (unit : SpaceUnit) → 0 < tracks_in unit
unit-some Trk = omega arith
unit-some Cyl = omega arith

-- a data set with the first of its tracks
lawful-released : (s : DeskState) (dsn : List ℕ) (set : DataSet) → IsLawful s → set_named dsn s.sets ≡ Some set → IsLawful (with_set s (kept_of set))
lawful-released s dsn set lawful found =
    let old = each-named (IsLawfulSet (volumes_in s.active)) dsn s.sets set lawful.sets found in
    let some = rounded-some (tracks_in set.unit) (max set.used 1) (unit-some set.unit) (omega arith) in
    lawful-changed s dsn set set.used (front_tracks (tracks_kept set) set.extents) lawful found
    (record {
      some = front-some (tracks_kept set) set.extents some old.some;
      inside = front-each (IsInside (volumes_in s.active)) (tracks_kept set) set.extents (cut-inside (volumes_in s.active)) old.inside;
      parted = front-each LiesInPart (tracks_kept set) set.extents (λ keep e more. cut-parted keep e) old.parted;
      few = λ v. let few = old.few v in omega (arith, front-count v (tracks_kept set) set.extents, few);
      whole = old.whole;
    })
    (λ v t. let once = lawful.once v t in omega (arith, once, front-times v (tracks_kept set) set.extents t))

-- what a sound ALLOC is
pub sound-alloc : (op : Op) (alloc : Alloc) → op ≡ ops.Alloc alloc → IsSound op → IsSoundAlloc alloc
sound-alloc op alloc is sound = subst IsSound is sound

pub rule-keeps : (old_floor : List ℕ → ℕ) (s : DeskState) (job : List ℕ) (op : Op) (reply : Reply) (after : DeskState) → IsLawful s → IsSound op → Rule old_floor s job op reply after → IsLawful after
rule-keeps old_floor s job op reply after lawful sound rule = on-rule old_floor s job op reply after (IsLawful after) rule (record {
  leaves = λ answer quiet leaves. left s after answer reply lawful leaves;
  grants = λ alloc wish is case one. granted-keeps s alloc wish one.volume one.position reply after lawful (wish-is s job alloc wish lawful (sound-alloc op alloc is sound) case) one.there one.does;
  grows = λ dsn set added is may granted extends. grown-keeps s dsn set (last_volume s set.extents) added reply after lawful may refl granted extends;
  spreads = λ dsn set is may fewer one. spread-keeps s dsn set one.volume one.position reply after lawful may one.there one.does;
  deletes = λ dsn set is found makes. made _ after _ reply (lawful-without s dsn lawful) makes;
  notes = λ dsn tracks set is found makes. made _ after _ reply (lawful-noted s dsn tracks set lawful found) makes;
  releases = λ dsn set tracks is found makes. made _ after _ reply (lawful-released s dsn set lawful found) makes;
  varies = λ target action makes. made _ after _ reply (lawful-varied s target action lawful) makes;
  activates = λ deck config is configures free makes. made _ after _ reply (lawful-activated s config lawful (configures-is deck config configures) free) makes;
})
