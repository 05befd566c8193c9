use Rattle.std.proofs.Common.{◌≡◌, ◌++◌, drop}
use Rattle.acs_tree.specs.declared.input.Input.{Input}
use Rattle.acs_tree.specs.declared.values.Values.{Values}
use Rattle.acs_tree.specs.Writing.{joined}
use Rattle.acs_code.specs.Machine.{parts_text}
use Rattle.acs_code.proofs.writes.parts.Given as goal

abbrev pub invariant-loop-operand : goal.invariant-loop-operand
invariant-loop-operand l = (input : Input) (values : Values) → parts_text l.parts input values ++ joined (drop l.operand-index l.operands) input values ≡ joined l.operands input values
