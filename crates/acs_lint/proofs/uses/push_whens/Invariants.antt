use Rattle.std.proofs.Common.{◌≡◌, ◌++◌, map, take}
use Rattle.std.specs.Prelude.{flat_map}
use Rattle.acs_tree.specs.declared.routine.When.{out-When}
use Rattle.acs_lint.specs.Uses.{operands_of_test}
use Rattle.acs_lint.proofs.uses.push_whens.Given as goal

-- what is compared in the WHENs that were gone over
abbrev pub invariant-loop-arm : goal.invariant-loop-arm
invariant-loop-arm l = map (λ operand. operand.now) l.all.items ≡ map (λ operand. operand.now) l.initial.all.items ++ flat_map (λ arm. operands_of_test (out-When arm).test) (take l.arm-index l.whens)
