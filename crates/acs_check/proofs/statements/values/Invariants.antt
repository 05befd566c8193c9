use Rattle.std.proofs.Common.{◌≡◌, take, drop}
use Rattle.acs_tree.specs.Nodes.{values_behind}
use Rattle.acs_check.specs.Inner.Walk.{walked}
use Rattle.acs_check.proofs.statements.values.Given as goal

abbrev pub invariant-loop-index : goal.invariant-loop-index
invariant-loop-index l = walked l.kind l.before l.best (values_behind l.target (take l.index l.values) (drop l.index l.values)) ≡ walked l.kind l.before l.initial.best (values_behind l.target (take 0 l.values) l.values)
