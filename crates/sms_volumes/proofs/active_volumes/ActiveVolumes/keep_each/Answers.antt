use Rattle.std.proofs.Common.{◌≡◌, ◌∙◌, List, [], ◌∷◌, refl, subst, sym}
use Rattle.std.specs.Prelude.{IfSome, Option, slice_get}
use Rattle.std.specs.List.{AllZip}
use Rattle.sms_construct.specs.declared.extent.Extent.{Extent}
use Rattle.sms_volumes.specs.Changing.{HasChanged, IsPartOf, extent_if}
use Rattle.sms_volumes.proofs.ChangeLemmas.{all-hold-after, apart-after, changed-none, zip-stays}
use Rattle.sms_volumes.proofs.PartLemmas.{front-at, hold-one, kept-all, kept-next, kept_so_far, looked-up}
use Rattle.sms_volumes.proofs.active_volumes.ActiveVolumes.keep_each.Goals as goal

pub loop-place-init : goal.loop-place-init
loop-place-init c = record { groups = refl; volumes = zip-stays (HasChanged c.args.extents.now c.args.extents.now) c.args.self.now.volumes.items (changed-none c.args.extents.now) }

pub keep-requires-clause-apart : goal.keep-requires-clause-apart
keep-requires-clause-apart c =
    apart-after c.args.extents.now (kept_so_far c.loop-place.place c.args.kept.now c.args.extents.now) c.args.self.now.volumes.items c.loop-place.self.volumes.items c.loop-place.invariant.volumes c.requires.apart

pub keep-requires-clause-held : goal.keep-requires-clause-held
keep-requires-clause-held c =
    let left = kept_so_far c.loop-place.place c.args.kept.now c.args.extents.now in
    hold-one c.loop-place.place c.args.kept.now c.args.extents.now c.index-extents-place.result c.loop-place.self.volumes.items c.loop-place-test.true c.index-extents-place.is
    (all-hold-after c.args.extents.now left c.args.self.now.volumes.items c.loop-place.self.volumes.items c.loop-place.invariant.volumes c.requires.held)

pub keep-requires-clause-part : goal.keep-requires-clause-part
keep-requires-clause-part c =
    let e = c.index-extents-place.result in
    let look = c.get.ensures.lookup in
    let same : slice_get c.args.kept.now c.loop-place.place ≡ c.copied.result = looked-up c.args.kept.now c.loop-place.place c.get.result look.0 look.1 ∙ sym c.copied.ensures in
    subst (λ (o : Option Extent). IfSome o (λ part. IsPartOf part e)) same
    (front-at c.args.kept.now c.args.extents.now c.loop-place.place e c.requires.front c.loop-place-test.true c.index-extents-place.is)

pub loop-place-preserved : goal.loop-place-preserved
loop-place-preserved c =
    let e = c.index-extents-place.result in
    let look = c.get.ensures.lookup in
    let same : slice_get c.args.kept.now c.loop-place.place ≡ c.copied.result = looked-up c.args.kept.now c.loop-place.place c.get.result look.0 look.1 ∙ sym c.copied.ensures in
    record {
      groups = c.keep.ensures.groups ∙ c.loop-place.invariant.groups;
      volumes = kept-next c.loop-place.place c.args.kept.now c.args.extents.now e c.args.self.now.volumes.items c.loop-place.self.volumes.items c.keep.new.self.volumes.items c.loop-place-test.true
          c.index-extents-place.is c.loop-place.invariant.volumes
          (subst (λ (o : Option Extent). AllZip (HasChanged (e ∷ []) (extent_if o)) c.loop-place.self.volumes.items c.keep.new.self.volumes.items) (sym same) c.keep.ensures.volumes);
    }

pub returns-clause-volumes : goal.returns-clause-volumes
returns-clause-volumes c =
    subst (λ (l : List Extent). AllZip (HasChanged c.args.extents.now l) c.args.self.now.volumes.items c.loop-place.self.volumes.items)
    (kept-all c.loop-place.place c.args.kept.now c.args.extents.now c.requires.front c.loop-place-test.false) c.loop-place.invariant.volumes
