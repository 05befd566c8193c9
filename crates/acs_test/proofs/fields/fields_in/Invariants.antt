use Rattle.std.proofs.Common.{◌≡◌, map, take}
use Rattle.csv.specs.Records.{fields_of}
use Rattle.acs_test.proofs.fields.fields_in.Given as goal

-- the fields so far
abbrev pub invariant-loop-at : goal.invariant-loop-at
invariant-loop-at l = map (λ field. field.now) l.fields.items ≡ take l.at (fields_of l.record)
