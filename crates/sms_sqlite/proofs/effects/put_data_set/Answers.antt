use Rattle.std.proofs.Common.{◌∙◌}
use Rattle.sms_sqlite.proofs.TablesLemmas.{makes_like}
use Rattle.sms_sqlite.proofs.WriteLemmas.{puts_set}
use Rattle.sms_sqlite.proofs.effects.put_data_set.Goals as goal

pub returns-clause-leads : goal.returns-clause-leads
returns-clause-leads g c clean inside rows holds =
    makes_like _ _ _ rows _ (c.in_ok-put_set.ensures.made clean inside holds.ready) holds
    (puts_set c.args.set.now c.bytes.result.now c.deref.result.now c.bytes.ensures.bytes (c.deref.ensures.value ∙ c.in_ok-bytes.ensures.written) c.in_ok-bytes.ensures.readable _ rows)
