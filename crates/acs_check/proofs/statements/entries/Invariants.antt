use Rattle.std.proofs.Common.{◌≡◌, drop}
use Rattle.acs_tree.specs.Nodes.{entries_behind}
use Rattle.acs_check.specs.Inner.Walk.{walked}
use Rattle.acs_check.proofs.statements.entries.Given as goal

abbrev pub invariant-loop-count : goal.invariant-loop-count
invariant-loop-count l = walked l.kind l.before l.best (entries_behind l.count (drop l.count l.entries)) ≡ walked l.kind l.before l.initial.best (entries_behind 0 l.entries)
