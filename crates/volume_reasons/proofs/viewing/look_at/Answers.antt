use Rattle.std.proofs.Common.{◌≡◌, ◌∙◌, true, false, sym, subst}
use Rattle.std.proofs.lemmas.Option.{same_Some}
use Rattle.desk_law.specs.Candidates.{view_of}
use Rattle.sms_volumes.specs.Asking.{ask_of}
use Rattle.sms_volumes.specs.declared.active_volume.ActiveVolume.{ActiveVolume}
use Rattle.sms_volumes.proofs.RunningLemmas.{same-at}
use Rattle.volume_reasons.specs.Inner.Views.{is_listed}
use Rattle.volume_reasons.proofs.ViewLemmas.{viewed-none, viewed-one}
use Rattle.volume_reasons.proofs.viewing.look_at.Goals as goal

pub returns-then-not-is_listed : goal.returns-then-not-is_listed
returns-then-not-is_listed c = λ s volume lawful are there.
    let groups = c.args.groups.now in
    let same = same-at c.args.volumes.now.volumes.items c.args.place volume c.index.result.now there c.index.ensures in
    let off : is_listed groups volume.volume ≡ false = subst (λ (v : ActiveVolume). is_listed groups v.volume ≡ false) same (sym c.if-not-is_listed.ensures) in
    viewed-none s c.args.asked.now groups volume c.args.views.now.items off

pub returns : goal.returns
returns c = λ s volume lawful are there.
    let groups = c.args.groups.now in
    let same = same-at c.args.volumes.now.volumes.items c.args.place volume c.index.result.now there c.index.ensures in
    let on : is_listed groups volume.volume ≡ true = subst (λ (v : ActiveVolume). is_listed groups v.volume ≡ true) same (sym c.if-not-is_listed.ensures) in
    let view : c.in-Some.view ≡ view_of s (ask_of c.args.asked.now) volume.volume = same_Some _ _ (sym c.in-Some.is ∙ c.view_at.ensures s volume lawful are there) in
    viewed-one s c.args.asked.now groups volume c.in-Some.view c.args.views.now.items c.push.new.self.items on view c.in_ok-push.ensures.items
