-- The statements in the parts of a statement.
use Rattle.std.specs.Prelude.{List, [], Option, None, Some}
use Rattle.acs_tree.specs.declared.routine.Form.{Form}
use Rattle.acs_tree.specs.declared.routine.Stmt.{Stmt}
use Rattle.acs_tree.specs.declared.routine.When.{When, fold-When}
use Rattle.acs_lint.specs.Statements.{FormParts, StmtParts, WhenParts, form_parts, form_step, statements_in, stmt_step}
use Rattle.acs_lint.specs.Statements.{when_step}

-- the statements inside of what a statement is
abbrev pub inside_form : Form → List Stmt
inside_form form = (form_parts form).inside

-- the parts of a WHEN
abbrev pub when_parts : When → WhenParts
when_parts = fold-When FormParts StmtParts WhenParts form_step stmt_step when_step

-- the statements inside a WHEN
abbrev pub inside_when : When → List Stmt
inside_when arm = (when_parts arm).inside

-- the statements of one that may be missing
abbrev pub statements_in_other : Option Stmt → List Stmt
statements_in_other None = []
statements_in_other (Some statement) = statements_in statement
