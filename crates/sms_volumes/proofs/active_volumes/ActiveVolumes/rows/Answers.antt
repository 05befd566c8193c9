use Rattle.std.proofs.Common.{◌∙◌, ◌≤◌, List, ap, length, map, subst}
use Rattle.std.proofs.lemmas.List.{take_all}
use Rattle.sms_volumes.specs.Inner.Showing.{running_row}
use Rattle.sms_volumes.specs.declared.active_volume.ActiveVolume.{ActiveVolume}
use Rattle.sms_volumes.proofs.ShowLemmas.{rows-are}
use Rattle.sms_volumes.proofs.active_volumes.ActiveVolumes.rows.Goals as goal

pub returns : goal.returns
returns c = λ s are.
    c.from_vec.ensures ∙ (c.loop-volume.invariant ∙ (ap (map running_row) (take_all c.loop-volume.volume-index c.args.self.now.volumes.items (subst (λ (l : List ActiveVolume). length l ≤ c.loop-volume.volume-index) c.deref-volume-items.ensures.value c.loop-volume-test.false)) ∙ rows-are s c.args.self.now are))
