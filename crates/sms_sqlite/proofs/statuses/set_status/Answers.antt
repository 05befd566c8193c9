use Rattle.std.proofs.Common.{arith}
use Rattle.std.proofs.lemmas.Result.{on_ok_weaker}
use Rattle.sqlite.specs.Held.{state}
use Rattle.sqlite.specs.State.{HasCleanDisk}
use Rattle.sms_sqlite.proofs.LeadLemmas.{makes_then}
use Rattle.sms_sqlite.proofs.NumberLemmas.{column_is, kind_low}
use Rattle.sms_sqlite.proofs.TablesLemmas.{makes_like}
use Rattle.sms_sqlite.proofs.WriteLemmas.{sets_none, sets_one}
use Rattle.sms_sqlite.proofs.statuses.set_status.Goals as goal

pub returns-in-0-clause-leads : goal.returns-in-0-clause-leads
returns-in-0-clause-leads g c clean inside rows holds =
    makes_like _ _ _ rows _ (c.in_ok-drop_status.ensures.made clean inside holds.ready) holds
    (sets_none c.args.target.now c.args.status _ c.key_of-kind.result.1.now c.in_ok-drop_status.field-0 (column_is c.key_of-kind.result.0 _ c.key_of-kind.ensures.kind (kind_low c.args.target.now)) c.key_of-kind.ensures.name c.in-0.is _ rows
    (c.in_ok-drop_status.ensures.counted clean inside holds.ready))

pub returns-in-1-clause-leads : goal.returns-in-1-clause-leads
returns-in-1-clause-leads g c clean inside rows holds =
    let first : HasCleanDisk (state g.S.Store c.drop_status.new.tx.conn.now) = omega (arith, clean, c.put_status.ensures.survives.clean) in
    let one = c.in_ok-drop_status.ensures.made first inside holds.ready in
    let on = (c.in_ok-drop_status.ensures.stays first inside).inside in
    on_ok_weaker c.put_status.result (λ made. makes_like _ _ _ rows _ (makes_then _ _ _ _ _ one made) holds
    (sets_one c.args.target.now c.args.status _ c.key_of-kind.result.1.now c.in_ok-drop_status.field-0 (column_is c.key_of-kind.result.0 _ c.key_of-kind.ensures.kind (kind_low c.args.target.now)) c.key_of-kind.ensures.name c.in-1.is _ rows
    (c.in_ok-drop_status.ensures.counted first inside holds.ready) c.put_status.ensures.read))
    (c.put_status.ensures.made clean on one.ready)
