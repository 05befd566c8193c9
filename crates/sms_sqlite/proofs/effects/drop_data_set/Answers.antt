use Rattle.sms_sqlite.proofs.TablesLemmas.{makes_like}
use Rattle.sms_sqlite.proofs.WriteLemmas.{drops_set}
use Rattle.sms_sqlite.proofs.effects.drop_data_set.Goals as goal

pub returns-clause-leads : goal.returns-clause-leads
returns-clause-leads g c clean inside rows holds =
    makes_like _ _ _ rows _ (c.in_ok-drop_set.ensures.made clean inside holds.ready) holds (drops_set c.args.dsn.now c.bytes.result.now c.bytes.ensures.bytes _ rows)
