use Rattle.desk_law.specs.Lawful.{IsLawfulSet}
use Rattle.sms_open.proofs.EachLemmas.{each-more}
use Rattle.sms_open.proofs.sets.are_lawful.Goals as goal

pub loop-set-preserved : goal.loop-set-preserved
loop-set-preserved c = λ volumes known.
    let here : IsLawfulSet volumes c.get.result.now = rw c.if-not-branch.false at (c.in_ok-is_lawful.ensures volumes known) in
    each-more (IsLawfulSet volumes) c.args.sets.now c.loop-set.set-index c.set-item.result c.loop-set-test.true c.set-item.is (c.loop-set.invariant volumes known) (rw c.get.ensures at here)
