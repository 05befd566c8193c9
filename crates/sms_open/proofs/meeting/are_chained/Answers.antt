use Rattle.std.proofs.Common.{◌≡◌, true, false, rules, arith}
use Rattle.sms_open.proofs.MeetingLemmas.{chained-before, chained-next}
use Rattle.sms_open.proofs.meeting.are_chained.Goals as goal

pub returns-then-not-follows : goal.returns-then-not-follows
returns-then-not-follows c = λ chained.
    let off : c.follows.result ≡ false = search rules in
    (rw off at c.follows.ensures)
    (chained-before c.args.extents.now c.loop-place.place c.index-extents-place.result c.index-extents-place-in-loop-place.result
    (omega (arith, c.loop-place.auto.place)) (omega (arith, c.loop-place-test.true)) c.index-extents-place.is c.index-extents-place-in-loop-place.is chained)

pub loop-place-preserved : goal.loop-place-preserved
loop-place-preserved c =
    let on : c.follows.result ≡ true = search rules in
    chained-next c.args.extents.now c.loop-place.place c.index-extents-place.result c.index-extents-place-in-loop-place.result
    (omega (arith, c.loop-place.auto.place)) (omega (arith, c.loop-place-test.true)) c.index-extents-place.is c.index-extents-place-in-loop-place.is (rw on at c.follows.ensures) c.loop-place.invariant
