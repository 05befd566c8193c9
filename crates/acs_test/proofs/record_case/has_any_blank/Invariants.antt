use Rattle.std.proofs.Common.{◌≡◌, drop, map}
use Rattle.std.specs.List.{list_any}
use Rattle.acs_test.specs.AllocLine.{has_blank}
use Rattle.acs_test.proofs.record_case.has_any_blank.Given as goal

-- no field that was gone over has one
abbrev pub invariant-loop-field : goal.invariant-loop-field
invariant-loop-field l = list_any has_blank (map (λ field. field.now) (drop l.field-index l.fields)) ≡ list_any has_blank (map (λ field. field.now) l.fields)
