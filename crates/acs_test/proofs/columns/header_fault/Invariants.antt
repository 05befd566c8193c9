use Rattle.std.proofs.Common.{◌≡◌, drop, take}
use Rattle.acs_test.specs.Columns.{fault_behind, header_fault}
use Rattle.acs_test.proofs.columns.header_fault.Given as goal

-- no column at fault was gone over
abbrev pub invariant-loop-at : goal.invariant-loop-at
invariant-loop-at l = fault_behind (take l.at l.columns) (drop l.at l.columns) ≡ header_fault l.columns
