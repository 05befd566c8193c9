use Rattle.std.proofs.Common.{◌<◌, ◌≤◌, arith, length}
use Rattle.sms_volumes.proofs.LeadLemmas.{at-place}
use Rattle.volume_reasons.proofs.ViewLemmas.{viewed-all, viewed-more}
use Rattle.volume_reasons.proofs.viewing.views_of.Goals as goal

pub loop-place-preserved : goal.loop-place-preserved
loop-place-preserved c = λ s lawful are.
    let volumes = c.args.volumes.now.volumes.items in
    let less : c.loop-place.place < length volumes = omega (arith, c.loop-place-test.true, c.len-place-end.ensures) in
    let v = at-place volumes c.loop-place.place less in
    viewed-more s c.args.asked.now c.args.groups.now volumes c.loop-place.place v.value c.loop-place.views.items c.look_at.new.views.items
    less v.there (c.loop-place.invariant s lawful are) (c.in_ok-look_at.ensures s v.value lawful are v.there)

pub returns : goal.returns
returns c = λ s lawful are.
    let most : length c.args.volumes.now.volumes.items ≤ c.loop-place.place = omega (arith, c.loop-place-test.false, c.len-place-end.ensures) in
    viewed-all s c.args.asked.now c.args.groups.now c.args.volumes.now c.loop-place.place c.loop-place.views.items are most (c.loop-place.invariant s lawful are)
