-- One event, and then the same clerk, or one that goes on, or none.
use Rattle.std.proofs.Common.{◌∙◌, ap, sym}
use Rattle.std.proofs.lemmas.Result.{IfOk-weaker}
use Rattle.smsd_serving.proofs.KeepingLaws.{asked_unopened, ends_loop, goes_on_served, never_turns, one_asked_on, went_off, went_on}
use Rattle.smsd_serving.proofs.keeping.serve_next.Goals as goal

pub returns-in-Turns-clause-goes_on : goal.returns-in-Turns-clause-goes_on
returns-in-Turns-clause-goes_on g c =
    let kept = rw (c.deref.ensures.value ∙ c.requires.away) at c.serve_event-end.ensures.stands in
    let goes = goes_on_served g.P.Keeper.told g.P.Keeper.count g.R.Conn.Wire.seen c.args.room.now.site c.args.clerk c.serve_event-end.new.clerk _ _ _ _ _ _ kept in
    IfOk-weaker c.go_on.result _ _ (λ next h. went_on _ _ _ _ c.args.clerk c.serve_event-end.new.clerk next _ _ _ _ _ _ goes h) c.go_on.ensures.ok

pub returns-in-Turns-clause-ends : goal.returns-in-Turns-clause-ends
returns-in-Turns-clause-ends g c =
    let kept = rw (c.deref.ensures.value ∙ c.requires.away) at c.serve_event-end.ensures.stands in
    let goes = goes_on_served g.P.Keeper.told g.P.Keeper.count g.R.Conn.Wire.seen c.args.room.now.site c.args.clerk c.serve_event-end.new.clerk _ _ _ _ _ _ kept in
    went_off _ _ _ _ g.P.Stored.damage c.go_on.result c.args.clerk c.serve_event-end.new.clerk _ _ _ _ _ _ goes c.go_on.ensures.err c.go_on.ensures.filled c.go_on.ensures.left

pub returns-in-Turns-clause-calls : goal.returns-in-Turns-clause-calls
returns-in-Turns-clause-calls g c = one_asked_on c.go_on.result _ _ _ (rw c.in-Turns.is at c.serve_event-end.ensures.asked)

pub returns-in-Turns-clause-asked : goal.returns-in-Turns-clause-asked
returns-in-Turns-clause-asked g c = asked_unopened _ _ _ _ c.go_on.result _ _ _ _ c.go_on.ensures.err c.serve_event-end.ensures.asked

pub returns-in-Turns-clause-over : goal.returns-in-Turns-clause-over
returns-in-Turns-clause-over g c = never_turns _ _ _ _ c.go_on.result c.go_on.ensures.err

pub returns-in_default-clause-ends : goal.returns-in_default-clause-ends
returns-in_default-clause-ends g c =
    let kept = rw (c.deref.ensures.value ∙ c.requires.away) at c.serve_event-end.ensures.stands in
    let goes = goes_on_served g.P.Keeper.told g.P.Keeper.count g.R.Conn.Wire.seen c.args.room.now.site c.args.clerk c.serve_event-end.new.clerk _ _ _ _ _ _ kept in
    rw c.stop.ensures.end (ends_loop _ _ _ _ g.P.Stored.damage c.args.clerk c.serve_event-end.new.clerk c.stop.result.1 _ _ _ _ _ _ c.serve_event-end.result goes c.stop.ensures.left c.stop.ensures.keeper (λ is. absurd (c.in_default.not-Turns is)))

pub returns-in_default-clause-asked : goal.returns-in_default-clause-asked
returns-in_default-clause-asked g c = rw c.stop.ensures.end c.serve_event-end.ensures.asked

pub returns-in_default-clause-over : goal.returns-in_default-clause-over
returns-in_default-clause-over g c = λ is. c.in_default.not-Turns (cc (sym c.stop.ensures.end ∙ is))
