use Rattle.sms_sqlite.proofs.NumberLemmas.{column_is, kind_low, status_low}
use Rattle.sms_sqlite.proofs.StatusLemmas.{status_as}
use Rattle.sms_sqlite.proofs.statuses.put_status.Goals as goal

pub returns-clause-made : goal.returns-clause-made
returns-clause-made g c clean inside ready =
    status_as _ _ _ _ _ _ _ _ (column_is c.key_of-kind.result.0 _ c.key_of-kind.ensures.kind (kind_low c.args.target.now)) c.key_of-kind.ensures.name
    (column_is c.number_of.result _ c.number_of.ensures (status_low c.args.status)) (c.in_ok-add_status.ensures.made clean inside ready)
