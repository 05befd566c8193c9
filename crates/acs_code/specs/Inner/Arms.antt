-- What the parts of a statement do.
use Rattle.std.specs.Prelude.{List}
use Rattle.acs_tree.specs.declared.kind.Kind.{Kind}
use Rattle.acs_tree.specs.declared.routine.Form.{Form, fold-Form}
use Rattle.acs_tree.specs.declared.routine.Stmt.{Stmt}
use Rattle.acs_tree.specs.declared.routine.When.{When, fold-When}
use Rattle.acs_tree.specs.Meaning.{Arm, form_step, stmt_step, when_step}
use Rattle.acs_tree.specs.Outcome.{Action}

-- what a form does
abbrev pub form_meaning : Kind → List Stmt → Form → Action
form_meaning kind body = fold-Form Action Action Arm (form_step kind body) stmt_step (when_step body)

-- what a WHEN asks and does
abbrev pub arm_of : Kind → List Stmt → When → Arm
arm_of kind body = fold-When Action Action Arm (form_step kind body) stmt_step (when_step body)
