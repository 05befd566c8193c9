use Rattle.std.proofs.Common.{◌≡◌, map, take}
use Rattle.acs_test.specs.Columns.{columns_of}
use Rattle.acs_test.proofs.columns.columns_of.Given as goal

-- the columns so far
abbrev pub invariant-loop-field : goal.invariant-loop-field
invariant-loop-field l = l.columns.items ≡ columns_of (map (λ field. field.now) (take l.field-index l.header))
