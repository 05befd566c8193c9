use Rattle.std.proofs.Common.{List, refl, subst, sym}
use Rattle.std.specs.List.{AllZip}
use Rattle.sms_volumes.specs.Inner.Handing.{AreApart, HasTaken}
use Rattle.sms_volumes.specs.Viewing.{running_named}
use Rattle.sms_volumes.specs.declared.active_volume.ActiveVolume.{ActiveVolume}
use Rattle.sms_volumes.proofs.HandLemmas.{all-taken, apart-next}
use Rattle.sms_volumes.proofs.ZipLemmas.{written-back}
use Rattle.sms_volumes.proofs.active_volumes.ActiveVolumes.take_over.Goals as goal

pub returns : goal.returns
returns c = λ s config lawful are coming none is.
    let R : ActiveVolume → ActiveVolume → Type 0 = λ (x y : ActiveVolume). HasTaken (running_named x.volume.volser c.args.old.now.volumes.items) x y in
    let volumes = c.args.self.now.volumes in
    let apart : AreApart volumes.items = apart-next config s.statuses c.args.self.now coming is in
    let zip : AllZip R volumes.items c.take_each.new.volumes = subst (λ (l : List ActiveVolume). AreApart l → AllZip R l c.take_each.new.volumes) c.deref_mut.ensures.value c.take_each.ensures apart in
    all-taken s config c.args.old.now c.args.self.now _ lawful are coming none is refl (written-back R volumes.items c.take_each.new.volumes volumes.len (sym volumes.ok.0) zip)
