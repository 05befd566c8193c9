-- Whether the parts of a statement always exit.
use Rattle.std.specs.Prelude.{Bool, false, Option, Some, None}
use Rattle.acs_trace.specs.Lint.{always_exits, exits_form, exits_stmt, exits_when}
use Rattle.acs_tree.specs.declared.routine.Form.{Form, fold-Form}
use Rattle.acs_tree.specs.declared.routine.Stmt.{Stmt}
use Rattle.acs_tree.specs.declared.routine.When.{When, fold-When}

-- what a statement is always exits
abbrev pub form_exits : Form → Bool
form_exits = fold-Form Bool Bool Bool exits_form exits_stmt exits_when

-- the statement of a WHEN does
abbrev pub when_exits : When → Bool
when_exits = fold-When Bool Bool Bool exits_form exits_stmt exits_when

-- what is done otherwise does; nothing doesn't
abbrev pub other_exits : Option Stmt → Bool
other_exits None = false
other_exits (Some statement) = always_exits statement
