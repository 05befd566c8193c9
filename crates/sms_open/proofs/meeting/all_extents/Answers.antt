use Rattle.std.proofs.Common.{◌≡◌, ◌++◌, ◌∙◌, List, ap, rules}
use Rattle.sms_construct.specs.declared.extent.Extent.{Extent}
use Rattle.sms_open.proofs.MeetingLemmas.{extents-more}
use Rattle.sms_open.proofs.meeting.all_extents.Goals as goal

pub loop-set-preserved : goal.loop-set-preserved
loop-set-preserved c =
    let items : c.extend_from_slice.new.self.items ≡ c.loop-set.extents.items ++ c.set-item.result.extents = search rules in
    items ∙ (ap (λ (l : List Extent). l ++ c.set-item.result.extents) c.loop-set.invariant
    ∙ extents-more c.args.sets.now c.loop-set.set-index c.set-item.result c.loop-set-test.true c.set-item.is)
