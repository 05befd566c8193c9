use Rattle.std.proofs.Common.{◌≡◌, [], drop}
use Rattle.acs_tree.specs.Setting.{groups_behind}
use Rattle.acs_code.proofs.sets.groups.Given as goal

abbrev pub invariant-loop-value : goal.invariant-loop-value
invariant-loop-value l = groups_behind l.groups (drop l.value-index l.values) ≡ groups_behind [] l.values
