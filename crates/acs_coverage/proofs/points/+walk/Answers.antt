use Rattle.std.proofs.lemmas.Result.{on_ok_weaker}
use Rattle.acs_coverage.proofs.PointLemmas.{pick_points}
use Rattle.acs_coverage.proofs.points.+walk.Goals as goal

pub statement-returns-in_ok-when_clauses-in-Pick : goal.statement-returns-in_ok-when_clauses-in-Pick
statement-returns-in_ok-when_clauses-in-Pick t c =
    on_ok_weaker _ (pick_points c.args.current.now c.in-Pick.subject c.in-Pick.whens c.in-Pick.otherwise c.args.points.now.items c.in-Pick.is c.as_slice.ensures c.in_ok-push.ensures.items c.in_ok-when_clauses-in-Pick.ensures) c.alternative-in-Pick.ensures
