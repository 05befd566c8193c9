use Rattle.std.proofs.Common.{List, ◌≡◌, refl, subst, sym}
use Rattle.std.specs.List.{AllZip}
use Rattle.std.specs.Vec.{with_items}
use Rattle.sms_construct.specs.declared.target.Target.{Target}
use Rattle.desk_law.specs.State.{with_status}
use Rattle.sms_volumes.specs.Holding.{AreVolumesOf}
use Rattle.sms_volumes.specs.Inner.Varied.{varied_group, varied_volume}
use Rattle.sms_volumes.specs.declared.active_group.ActiveGroup.{ActiveGroup}
use Rattle.sms_volumes.specs.declared.active_volume.ActiveVolume.{ActiveVolume}
use Rattle.sms_volumes.specs.declared.active_volumes.ActiveVolumes.{ActiveVolumes}
use Rattle.sms_volumes.proofs.VaryLemmas.{all-group-varied, all-set-varied, all-volume-varied}
use Rattle.sms_volumes.proofs.ZipLemmas.{mapped-over, written-back}
use Rattle.sms_volumes.proofs.active_volumes.ActiveVolumes.vary.Goals as goal

pub returns-in-Group : goal.returns-in-Group
returns-in-Group c = λ s lawful are.
    let groups = c.args.self.now.groups in
    let f : ActiveGroup → ActiveGroup = varied_group c.in-Group.name c.args.status in
    let R : ActiveGroup → ActiveGroup → Type 0 = λ x y. y ≡ f x in
    let each : AllZip R groups.items c.vary_groups.new.groups = subst (λ (l : List ActiveGroup). AllZip R l c.vary_groups.new.groups) c.deref_mut.ensures.value c.vary_groups.ensures in
    let all = mapped-over f groups.items _ (written-back R groups.items c.vary_groups.new.groups groups.len (sym groups.ok.0) each) in
    let after : ActiveVolumes = record { groups = with_items groups c.vary_groups.new.groups; volumes = c.args.self.now.volumes; latest = c.args.self.now.latest } in
    subst (λ (t : Target). AreVolumesOf (with_status s t c.args.status) after) (sym c.in-Group.is) (all-group-varied s c.in-Group.name c.args.status c.args.self.now after lawful are all refl)

pub returns-in-Volume : goal.returns-in-Volume
returns-in-Volume c = λ s lawful are.
    let volumes = c.args.self.now.volumes in
    let f : ActiveVolume → ActiveVolume = varied_volume c.in-Volume.volser c.args.status in
    let R : ActiveVolume → ActiveVolume → Type 0 = λ x y. y ≡ f x in
    let each : AllZip R volumes.items c.vary_volumes.new.volumes = subst (λ (l : List ActiveVolume). AllZip R l c.vary_volumes.new.volumes) c.deref_mut-in-Volume.ensures.value c.vary_volumes.ensures in
    let all = mapped-over f volumes.items _ (written-back R volumes.items c.vary_volumes.new.volumes volumes.len (sym volumes.ok.0) each) in
    let after : ActiveVolumes = record { groups = c.args.self.now.groups; volumes = with_items volumes c.vary_volumes.new.volumes; latest = c.args.self.now.latest } in
    subst (λ (t : Target). AreVolumesOf (with_status s t c.args.status) after) (sym c.in-Volume.is) (all-volume-varied s c.in-Volume.volser c.args.status c.args.self.now after lawful are refl all)

pub returns-in-Set : goal.returns-in-Set
returns-in-Set c = λ s lawful are.
    subst (λ (t : Target). AreVolumesOf (with_status s t c.args.status) c.args.self.now) (sym c.in-Set.is) (all-set-varied s c.in-Set.field-0 c.args.status c.args.self.now are)
