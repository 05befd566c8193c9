use Rattle.std.proofs.Common.{◌≡◌, drop, map}
use Rattle.acs_tree.specs.Nodes.{Part}
use Rattle.acs_check.specs.Inner.Walk.{walked}
use Rattle.acs_check.proofs.statements.parts.Given as goal

abbrev pub invariant-loop-operand : goal.invariant-loop-operand
invariant-loop-operand l = walked l.kind l.before l.best (map Part (drop l.operand-index l.parts)) ≡ walked l.kind l.before l.initial.best (map Part l.parts)
