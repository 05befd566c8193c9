use Rattle.std.proofs.Common.{◌≡◌, ◌++◌, take}
use Rattle.std.specs.Prelude.{flat_map}
use Rattle.sms_lint.specs.DeckFound.{never_expires}
use Rattle.sms_lint.proofs.constructs.push_never_expiring.Given as goal

-- the findings on the names that were gone over
abbrev pub invariant-loop-name : goal.invariant-loop-name
invariant-loop-name l = l.found.items ≡ l.initial.found.items ++ flat_map (never_expires l.config) (take l.name-index l.names)
