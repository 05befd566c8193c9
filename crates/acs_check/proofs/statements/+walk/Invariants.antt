use Rattle.std.proofs.Common.{◌≡◌, drop}
use Rattle.acs_check.specs.Inner.Parts.{nodes_of_block, nodes_of_whens}
use Rattle.acs_check.specs.Inner.Walk.{walked}
use Rattle.acs_check.proofs.statements.+walk.Given as goal

abbrev pub invariant-block-statements : goal.invariant-block-statements
invariant-block-statements l = walked l.kind l.before l.best (nodes_of_block (drop l.inner-index l.body)) ≡ walked l.kind l.before l.initial.best (nodes_of_block l.body)

abbrev pub invariant-when_clauses-clauses : goal.invariant-when_clauses-clauses
invariant-when_clauses-clauses l = walked l.kind l.before l.best (nodes_of_whens l.compared (drop l.when-index l.whens)) ≡ walked l.kind l.before l.initial.best (nodes_of_whens l.compared l.whens)
