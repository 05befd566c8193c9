use Rattle.std.proofs.Common.{◌≡◌, ◌++◌, map, take}
use Rattle.std.specs.Prelude.{flat_map}
use Rattle.sms_lint.specs.DeckFound.{never_set}
use Rattle.sms_lint.proofs.constructs.push_unset.Given as goal

-- the findings on the names that were gone over
abbrev pub invariant-loop-name : goal.invariant-loop-name
invariant-loop-name l = l.found.items ≡ l.initial.found.items ++ flat_map (never_set l.kind (map (λ value. value.now) l.values)) (take l.name-index l.names)
