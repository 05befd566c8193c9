use Rattle.std.proofs.Common.{false, length, ◌+◌, ◌*◌}
use Rattle.acs_parse.proofs.StatementLemmas.{BlockTurn}
use Rattle.acs_parse.proofs.SelectLemmas.{WhenTurn}
use Rattle.acs_parse.proofs.statements.+statement.Given as goal

abbrev pub invariant-when_clauses-whens : goal.invariant-when_clauses-whens
invariant-when_clauses-whens l = WhenTurn l.fn.total l.fn.depth l.fn.has_subject l.fn.rest l.rest l.found

abbrev pub decreases-when_clauses-whens : goal.decreases-when_clauses-whens
decreases-when_clauses-whens l = length l.rest

abbrev pub invariant-block-items : goal.invariant-block-items
invariant-block-items l = BlockTurn l.fn.total l.fn.depth false l.fn.rest l.rest l.found

abbrev pub decreases-block-items : goal.decreases-block-items
decreases-block-items l = length l.rest

abbrev pub decreases-statement : goal.decreases-statement
decreases-statement l = 5 * length l.rest.now

abbrev pub decreases-conditional : goal.decreases-conditional
decreases-conditional l = 5 * length l.rest.now

abbrev pub decreases-alternative : goal.decreases-alternative
decreases-alternative l = 5 * length l.rest.now

abbrev pub decreases-when_value : goal.decreases-when_value
decreases-when_value l = 5 * length l.rest.now

abbrev pub decreases-when_condition : goal.decreases-when_condition
decreases-when_condition l = 5 * length l.rest.now

abbrev pub decreases-when : goal.decreases-when
decreases-when l = 5 * length l.rest.now + 1

abbrev pub decreases-when_clauses : goal.decreases-when_clauses
decreases-when_clauses l = 5 * length l.rest.now + 2

abbrev pub decreases-choice : goal.decreases-choice
decreases-choice l = 5 * length l.rest.now + 3

abbrev pub decreases-selection : goal.decreases-selection
decreases-selection l = 5 * length l.rest.now + 4

abbrev pub decreases-arms : goal.decreases-arms
decreases-arms l = 5 * length l.rest.now + 1

abbrev pub decreases-block : goal.decreases-block
decreases-block l = 5 * length l.rest.now + 2

abbrev pub decreases-inner_item : goal.decreases-inner_item
decreases-inner_item l = 5 * length l.rest.now + 1

abbrev pub decreases-group : goal.decreases-group
decreases-group l = 5 * length l.rest.now + 3
