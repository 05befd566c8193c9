use Rattle.std.proofs.Common.{[]}
use Rattle.sqlite.specs.Held.{state}
use Rattle.keeper_statements.proofs.StayLemmas.{query_stays}
use Rattle.keeper_statements.proofs.reading.all_rows.Goals as goal

pub returns-clause-stays : goal.returns-clause-stays
returns-clause-stays g c clean inside =
    query_stays c.args.text.now [] (state g.S.Store c.args.tx.now.conn.now) (state g.S.Store c.query_all.new.self.conn.now) c.query_all.result (λ rows. rows.items) inside
    (c.query_all.ensures.ok clean) (c.query_all.ensures.err clean)
