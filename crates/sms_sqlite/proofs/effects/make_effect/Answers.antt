use Rattle.sqlite.specs.Held.{state}
use Rattle.sms_sqlite.proofs.LeadLemmas.{floor_leads, nothing_leads}
use Rattle.sms_sqlite.proofs.effects.make_effect.Goals as goal

pub returns-in-Nothing-clause-leads : goal.returns-in-Nothing-clause-leads
returns-in-Nothing-clause-leads g c clean inside rows holds = nothing_leads c.args.change.now (state g.S.Store c.args.tx.now.conn.now).now rows c.in-Nothing.is holds

pub returns-in-Floor-clause-leads : goal.returns-in-Floor-clause-leads
returns-in-Floor-clause-leads g c =
    floor_leads c.args.change.now _ _ (state g.S.Store c.args.tx.now.conn.now) (state g.S.Store c.raise_floor.new.tx.conn.now) c.raise_floor.result c.in-Floor.is c.raise_floor.ensures.leads
