use Rattle.std.proofs.Common.{◌≤◌, arith}
use Rattle.sqlite.specs.Held.{state}
use Rattle.sqlite.specs.State.{HasCleanDisk}
use Rattle.sms_sqlite.proofs.LeadLemmas.{makes_then}
use Rattle.sms_sqlite.proofs.NumberLemmas.{column_is, word_low}
use Rattle.sms_sqlite.proofs.TablesLemmas.{makes_like}
use Rattle.sms_sqlite.proofs.WriteLemmas.{raises_floor}
use Rattle.sms_sqlite.proofs.effects.raise_floor.Goals as goal

pub returns-clause-leads : goal.returns-clause-leads
returns-clause-leads g c clean inside rows holds =
    let first : HasCleanDisk (state g.S.Store c.put_floor.new.tx.conn.now) = omega (arith, clean, c.drop_replies_below.ensures.survives.clean) in
    let one = c.in_ok-put_floor.ensures.made first inside holds.ready in
    let on = (c.in_ok-put_floor.ensures.stays first inside).inside in
    let two = c.in_ok-drop_replies_below.ensures.made clean on one.ready in
    let low : c.args.floor ≤ 4294967295 = omega (arith, c.ranges.floor.fits) in
    makes_like _ _ _ rows _ (makes_then _ _ _ _ _ one two) holds
    (raises_floor c.args.job.now c.args.floor c.bytes.result.now c.bytes-2.result.now _ c.bytes.ensures.bytes c.bytes-2.ensures.bytes (column_is c.in_column-floor.result _ c.in_column-floor.ensures (word_low _ low)) c.bytes.ensures.form low _ rows)
