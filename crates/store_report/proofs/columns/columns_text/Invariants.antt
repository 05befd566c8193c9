-- With what is left, the text is the whole.
use Rattle.std.proofs.Common.{◌≡◌, ◌≤◌, ◌+◌, ◌++◌, length}
use Rattle.store_report.specs.Columns.{columns_from, columns_of}
use Rattle.store_report.proofs.columns.columns_text.Given as goal

abbrev pub invariant-loop-rest : goal.invariant-loop-rest
invariant-loop-rest l = record {
  text : l.text.items ++ columns_from l.widths l.left l.count l.rest ≡ columns_of l.fn.widths l.fn.records;
  few : l.count + length l.rest ≤ length l.fn.records;
}

abbrev pub decreases-loop-rest : goal.decreases-loop-rest
decreases-loop-rest l = length l.rest
