use Rattle.std.proofs.Common.{◌≡◌, ◌∙◌, Some, ap}
use Rattle.std.specs.Prelude.{is_some}
use Rattle.desk_law.specs.Candidates.{grant_on, view_of}
use Rattle.sms_volumes.specs.Asking.{ask_of}
use Rattle.sms_volumes.specs.declared.active_volume.ActiveVolume.{ActiveVolume}
use Rattle.sms_volumes.proofs.RunningLemmas.{same-at, there-in, there-is}
use Rattle.volume_reasons.proofs.ViewLemmas.{mapped-some, view-there}
use Rattle.volume_reasons.proofs.viewing.view_at.Goals as goal

pub returns : goal.returns
returns c = λ s volume lawful are there.
    let running = c.args.volumes.now in
    let asked = c.args.asked.now in
    let v = c.index-volume.result.now in
    let group = c.in_ok-group.group.now in
    let look = c.in_ok-group.ensures.lookup in
    let at = there-is running.volumes.items c.args.place v c.requires.place c.index-volume.ensures in
    let beside = there-in running.groups.items c.deref.result.now v.group group c.deref.ensures.value look.3.0 look.1 in
    let same : v ≡ volume = same-at running.volumes.items c.args.place volume v there c.index-volume.ensures in
    let fits : c.is_some-fits.result ≡ is_some (grant_on s v.volume (ask_of asked) 0) =
    c.is_some-fits.ensures ∙ mapped-some (λ grant. grant.items) c.plan.result ∙ ap is_some (c.plan.ensures.rule s v lawful are at) in
    ap Some (c.view_as.ensures ∙ view-there s running asked c.args.place v group c.is_some-fits.result are at beside fits)
    ∙ ap (λ (y : ActiveVolume). Some (view_of s (ask_of asked) y.volume)) same
