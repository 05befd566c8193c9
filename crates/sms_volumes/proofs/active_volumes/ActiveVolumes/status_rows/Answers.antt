use Rattle.std.proofs.Common.{◌∙◌, ◌≤◌, List, length, subst}
use Rattle.sms_volumes.specs.declared.active_volume.ActiveVolume.{ActiveVolume}
use Rattle.sms_volumes.proofs.StatusRowLemmas.{all-rows, next-rows}
use Rattle.sms_volumes.proofs.active_volumes.ActiveVolumes.status_rows.Goals as goal

pub returns-clause-next : goal.returns-clause-next
returns-clause-next c = λ present config are.
    let running = c.args.self.now in
    c.from_vec.ensures ∙ (c.loop-volume.invariant
    ∙ (all-rows running c.loop-volume.volume-index (subst (λ (l : List ActiveVolume). length l ≤ c.loop-volume.volume-index) c.deref-volume-items.ensures.value c.loop-volume-test.false)
    ∙ next-rows present config running are))
