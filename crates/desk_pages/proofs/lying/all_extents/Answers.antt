-- One data set more.
use Rattle.desk_pages.proofs.LyingLaws.{found_none, found_more, found_all}
use Rattle.desk_pages.proofs.lying.all_extents.Goals as goal

pub loop-looked-init : goal.loop-looked-init
loop-looked-init g c = λ s stands. rw c.new-extents.ensures.items (found_none s.sets c.args.volser.now c.args.from)

pub loop-looked-preserved : goal.loop-looked-preserved
loop-looked-preserved g c = λ s stands.
    found_more s.sets c.args.volser.now c.args.from c.loop-looked.at c.loop-looked.extents.items (c.loop-looked.invariant s stands) c.in-Some.set.now _
    (rw c.as_ref.ensures.value at (c.in-Some.ensures s stands)) c.in_ok-push_lying.ensures

pub returns-in_default : goal.returns-in_default
returns-in_default g c = λ s stands.
    found_all s.sets c.args.volser.now c.args.from c.loop-looked.at c.loop-looked.extents.items (c.loop-looked.invariant s stands) (rw c.as_ref.ensures.value at (c.in_default.ensures s stands))
