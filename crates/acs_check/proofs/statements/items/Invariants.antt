use Rattle.std.proofs.Common.{◌≡◌, drop, map}
use Rattle.acs_tree.specs.Nodes.{Right}
use Rattle.acs_check.specs.Inner.Walk.{walked}
use Rattle.acs_check.proofs.statements.items.Given as goal

abbrev pub invariant-loop-operand : goal.invariant-loop-operand
invariant-loop-operand l = walked l.kind l.before l.best (map (Right l.subject) (drop l.operand-index l.items)) ≡ walked l.kind l.before l.initial.best (map (Right l.subject) l.items)
