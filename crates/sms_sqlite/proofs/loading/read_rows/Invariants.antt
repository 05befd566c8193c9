use Rattle.std.proofs.Common.{◌≡◌, Some, take}
use Rattle.sms_sqlite.specs.Values.{each_in}
use Rattle.sms_sqlite.proofs.loading.read_rows.Given as goal

-- the rows so far stand for the values
abbrev pub invariant-loop-at : goal.invariant-loop-at
invariant-loop-at g l = each_in g.T.TableRow.meaning (take l.at l.rows) ≡ Some l.values.items
