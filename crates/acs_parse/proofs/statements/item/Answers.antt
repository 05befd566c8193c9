use Rattle.std.proofs.Common.{true, ◌∙◌, sym}
use Rattle.acs_parse.proofs.StatementLemmas.{more_of_filter, more_of_plain, more_of_statement}
use Rattle.acs_parse.proofs.statements.item.Goals as goal

pub returns-in_ok-with_stmt : goal.returns-in_ok-with_stmt
returns-in_ok-with_stmt c = more_of_filter 0 c.args.found c.in_ok-with_stmt.field-0 (sym c.begins.ensures ∙ c.if-begins.true) c.in_ok-next.ensures c.in_ok-with_stmt.ensures

pub returns-in_ok-with_boxed : goal.returns-in_ok-with_boxed
returns-in_ok-with_boxed c = more_of_statement true c.args.found c.in_ok-with_boxed.field-0 c.in_ok-next-2.ensures c.in_ok-with_boxed.ensures

pub returns-in_ok-longer : goal.returns-in_ok-longer
returns-in_ok-longer c = more_of_plain _ _ true _ _ c.args.found c.in_ok-longer.longer c.in_ok-longer.ensures
