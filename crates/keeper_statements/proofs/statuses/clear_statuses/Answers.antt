use Rattle.sqlite.specs.Held.{state}
use Rattle.keeper_statements.proofs.MakesLemmas.{clears_statuses}
use Rattle.keeper_statements.proofs.StatementLemmas.{on_ok}
use Rattle.keeper_statements.proofs.StayLemmas.{executes_stays}
use Rattle.keeper_statements.proofs.statuses.clear_statuses.Goals as goal

pub returns-clause-made : goal.returns-clause-made
returns-clause-made g c clean inside ready = on_ok _ _ (state g.S.Store c.args.tx.now.conn.now) (state g.S.Store c.execute.new.self.conn.now) c.execute.result _ (λ count h. clears_statuses _ _ count ready h) (c.execute.ensures.runs clean inside)

pub returns-clause-stays : goal.returns-clause-stays
returns-clause-stays g c clean inside = executes_stays _ _ (state g.S.Store c.args.tx.now.conn.now) (state g.S.Store c.execute.new.self.conn.now) c.execute.result (c.execute.ensures.runs clean inside)
