use Rattle.std.proofs.Common.{◌≡◌, true, rules}
use Rattle.sms_open.specs.Tests.{IsSoundReply}
use Rattle.sms_open.proofs.EachLemmas.{each-end, each-more}
use Rattle.sms_open.proofs.replies.each_is_sound.Goals as goal

pub loop-row-preserved : goal.loop-row-preserved
loop-row-preserved c = λ floors known.
    let on : c.is_sound.result ≡ true = search rules in
    each-more (IsSoundReply floors) c.args.replies.now c.loop-row.row-index c.row-item.result c.loop-row-test.true c.row-item.is (c.loop-row.invariant floors known) (rw on at (c.is_sound.ensures floors known))

pub returns : goal.returns
returns c = λ floors known. each-end (IsSoundReply floors) c.args.replies.now c.loop-row.row-index c.loop-row-test.false (c.loop-row.invariant floors known)
