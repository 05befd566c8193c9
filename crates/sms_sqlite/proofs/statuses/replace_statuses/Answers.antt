use Rattle.std.proofs.Common.{arith}
use Rattle.sqlite.specs.Held.{state}
use Rattle.sqlite.specs.State.{HasCleanDisk}
use Rattle.sms_sqlite.proofs.LeadLemmas.{makes_then, on_both}
use Rattle.sms_sqlite.proofs.TablesLemmas.{makes_like}
use Rattle.sms_sqlite.proofs.WriteLemmas.{replaces_statuses}
use Rattle.sms_sqlite.proofs.statuses.replace_statuses.Goals as goal

pub returns-clause-leads : goal.returns-clause-leads
returns-clause-leads g c clean inside rows holds =
    let first : HasCleanDisk (state g.S.Store c.clear_statuses.new.tx.conn.now) = omega (arith, clean, c.put_statuses.ensures.survives.clean) in
    let one = c.in_ok-clear_statuses.ensures.made first inside holds.ready in
    let on = (c.in_ok-clear_statuses.ensures.stays first inside).inside in
    on_both c.put_statuses.result (λ made again. makes_like _ _ _ rows _ (makes_then _ _ _ _ _ one made) holds (replaces_statuses c.args.statuses.now again _ rows))
    (c.put_statuses.ensures.made clean on one.ready) c.put_statuses.ensures.read
