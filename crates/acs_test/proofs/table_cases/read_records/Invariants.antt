use Rattle.std.proofs.Common.{◌≡◌, ◌≤◌, drop, map}
use Rattle.csv.specs.Records.{fields_of}
use Rattle.acs_test.specs.Records.{cases_behind, most_cases}
use Rattle.acs_test.proofs.RecordLemmas.{behind_cases}
use Rattle.acs_test.proofs.table_cases.read_records.Given as goal

-- the cases so far, and those of the records that are left
abbrev pub invariant-loop-record : goal.invariant-loop-record
invariant-loop-record l = record {
  cases : behind_cases l.list (cases_behind l.columns l.count (map fields_of (drop l.record-index l.records))) ≡ cases_behind l.columns 0 (map fields_of l.records);
  few : l.count ≤ most_cases;
}
