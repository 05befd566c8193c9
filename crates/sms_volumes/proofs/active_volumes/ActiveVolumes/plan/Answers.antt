use Rattle.std.proofs.Common.{◌≡◌, ◌∙◌, ap, subst, sym}
use Rattle.track_ledger.specs.Need.{IsNeed}
use Rattle.desk_law.specs.Candidates.{grant_on}
use Rattle.sms_volumes.specs.Asking.{ask_of}
use Rattle.sms_volumes.specs.declared.active_volume.ActiveVolume.{ActiveVolume}
use Rattle.sms_volumes.proofs.RunningLemmas.{free-if, same-at, there-in, there-is}
use Rattle.sms_volumes.proofs.ViewLemmas.{granted-at, needed-at}
use Rattle.sms_volumes.proofs.active_volumes.ActiveVolumes.plan.Goals as goal

pub plan-requires : goal.plan-requires
plan-requires c =
    let running = c.args.self.now in
    let stand = c.requires.stand in
    let v = c.index-volume.result.now in
    let group = c.in_ok-group.group.now in
    let look = c.in_ok-group.ensures.lookup in
    subst IsNeed (sym c.need.ensures)
    (needed-at stand.state running c.args.asked.now c.args.place v group stand.stand (there-is running.volumes.items c.args.place v c.requires.place c.index-volume.ensures)
    (there-in running.groups.items c.deref.result.now v.group group c.deref.ensures.value look.3.0 look.1) c.args.held stand.lawful c.requires.asked c.requires.held)

pub returns-clause-rule : goal.returns-clause-rule
returns-clause-rule c = λ s volume lawful are there.
    let running = c.args.self.now in
    let v = c.index-volume.result.now in
    let group = c.in_ok-group.group.now in
    let look = c.in_ok-group.ensures.lookup in
    let same : v ≡ volume = same-at running.volumes.items c.args.place volume v there c.index-volume.ensures in
    granted-at s running c.args.asked.now c.args.place v group are (there-is running.volumes.items c.args.place v c.requires.place c.index-volume.ensures)
    (there-in running.groups.items c.deref.result.now v.group group c.deref.ensures.value look.3.0 look.1) c.args.held c.need.result _ c.need.ensures c.plan.ensures.beside
    ∙ ap (λ (y : ActiveVolume). grant_on s y.volume (ask_of c.args.asked.now) c.args.held) same

pub returns-clause-free : goal.returns-clause-free
returns-clause-free c =
    let running = c.args.self.now in
    let v = c.index-volume.result.now in
    free-if (λ g. g.items) running c.args.place v c.plan.result (there-is running.volumes.items c.args.place v c.requires.place c.index-volume.ensures) c.plan.ensures.inside c.plan.ensures.free
