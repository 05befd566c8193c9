use Rattle.std.proofs.Common.{Bool, List, length, nat_eq, to_z-of_z, ap, not, ◌∙◌}
use Rattle.sqlite.specs.Order.{Row}
use Rattle.sqlite.specs.Held.{state}
use Rattle.keeper_statements.proofs.QueryLemmas.{above_found, above_same}
use Rattle.keeper_statements.proofs.StayLemmas.{err_stays, query_err_stays, query_ok_stays}
use Rattle.keeper_statements.proofs.floors.has_floor_above.Goals as goal

pub returns-in_err-found-clause-stays : goal.returns-in_err-found-clause-stays
returns-in_err-found-clause-stays g c clean inside =
    err_stays (state g.S.Store c.args.tx.now.conn.now) (state g.S.Store c.query_all.new.self.conn.now) c.from_residual.result c.in_err-found.field-0.0 c.from_residual.ensures.0
    (query_err_stays {X = Bool} _ _ _ _ _ (c.in_err-found.ensures.err clean))

pub returns-clause-answer : goal.returns-clause-answer
returns-clause-answer g c clean ready =
    ap not c.is_empty.ensures ∙ ap (λ (l : List Row). not (nat_eq (length l) 0)) c.as_slice.ensures.value
    ∙ above_found (state g.S.Store c.args.tx.now.conn.now) (state g.S.Store c.query_all.new.self.conn.now) c.args.job.now c.args.number c.in_ok-found.found.items ready
    (rw (to_z-of_z c.ranges.number) at (c.in_ok-found.ensures.ok clean))

pub returns-clause-same : goal.returns-clause-same
returns-clause-same g c clean ready =
    above_same (state g.S.Store c.args.tx.now.conn.now) (state g.S.Store c.query_all.new.self.conn.now) c.args.job.now c.args.number c.in_ok-found.found.items ready
    (rw (to_z-of_z c.ranges.number) at (c.in_ok-found.ensures.ok clean))

pub returns-clause-stays : goal.returns-clause-stays
returns-clause-stays g c clean inside =
    query_ok_stays _ _ (state g.S.Store c.args.tx.now.conn.now) (state g.S.Store c.query_all.new.self.conn.now) _ _ inside (c.in_ok-found.ensures.ok clean)
