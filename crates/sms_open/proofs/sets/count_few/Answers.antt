use Rattle.std.proofs.Common.{arith}
use Rattle.sms_open.proofs.SizeLemmas.{counted-more, few-end, few-more, too-many}
use Rattle.sms_open.proofs.sets.count_few.Goals as goal

pub returns-then-count-ge-MAX_EXTENTS : goal.returns-then-count-ge-MAX_EXTENTS
returns-then-count-ge-MAX_EXTENTS c = λ few.
    let own = c.loop-extent.invariant.0 c.extent-item.result.volser in
    too-many c.args.extents.now c.loop-extent.extent-index c.extent-item.result c.loop-extent-test.true c.extent-item.is (omega (arith, own, c.if-count-ge-MAX_EXTENTS.true, c.get-count.ensures)) few

pub loop-extent-preserved : goal.loop-extent-preserved
loop-extent-preserved c = (
  λ volser. counted-more volser c.args.extents.now c.loop-extent.extent-index c.extent-item.result c.loop-extent.counts c.put.new.self c.get-count.result c.loop-extent-test.true c.extent-item.is
      c.loop-extent.invariant.0 c.get-count.ensures (c.in_ok-put.ensures volser),
  λ volser. few-more volser c.extent-item.result.volser c.loop-extent.counts c.put.new.self c.get-count.result (omega (arith, c.if-count-ge-MAX_EXTENTS.false)) (c.loop-extent.invariant.1 volser) (c.in_ok-put.ensures volser),
)

pub returns : goal.returns
returns c = λ volser. few-end volser c.args.extents.now c.loop-extent.extent-index c.loop-extent.counts c.loop-extent-test.false (c.loop-extent.invariant.0 volser) (c.loop-extent.invariant.1 volser)
