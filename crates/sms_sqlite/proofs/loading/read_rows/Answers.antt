use Rattle.std.proofs.Common.{Err, ap, refl}
use Rattle.sms_sqlite.proofs.TableLemmas.{rows_more, unread_at}
use Rattle.sms_sqlite.proofs.loading.read_rows.Goals as goal

pub returns-in-Err-Bad : goal.returns-in-Err-Bad
returns-in-Err-Bad g c = (
  refl,
  unread_at g.T.TableRow.meaning c.args.rows.now c.loop-at.at c.index-rows-at.result c.loop-at.values.items c.loop-at-test.true c.index-rows-at.is c.loop-at.invariant (c.in-Err-Bad.ensures.bad (ap Err c.in-Err-Bad.field-0-is)),
)

pub loop-at-preserved : goal.loop-at-preserved
loop-at-preserved g c =
    rows_more g.T.TableRow.meaning c.args.rows.now c.loop-at.at c.index-rows-at.result c.loop-at.values.items c.push_row.new.values.items c.loop-at-test.true c.index-rows-at.is c.loop-at.invariant c.in-Ok.ensures.pushed
