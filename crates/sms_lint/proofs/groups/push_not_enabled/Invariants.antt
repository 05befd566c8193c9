use Rattle.std.proofs.Common.{◌≡◌, ◌++◌, take}
use Rattle.std.specs.Prelude.{flat_map}
use Rattle.sms_lint.specs.DeckFound.{not_enabled}
use Rattle.sms_lint.proofs.groups.push_not_enabled.Given as goal

-- the findings on the groups that were gone over
abbrev pub invariant-loop-group : goal.invariant-loop-group
invariant-loop-group l = l.found.items ≡ l.initial.found.items ++ flat_map (not_enabled l.volumes) (take l.group-index l.groups)
