-- The nodes of the parts of a statement.
use Rattle.std.specs.Prelude.{List, [], ◌∷◌, ◌++◌, Option, Some, None}
use Rattle.acs_tree.specs.declared.routine.Form.{Form, fold-Form}
use Rattle.acs_tree.specs.declared.routine.Ref.{Ref}
use Rattle.acs_tree.specs.declared.routine.Stmt.{Stmt}
use Rattle.acs_tree.specs.declared.routine.When.{When, fold-When}
use Rattle.acs_tree.specs.Nodes.{Node, nodes_of, form_step, stmt_step, when_step}

-- the nodes of what a statement is
abbrev pub nodes_of_form : Form → List Node
nodes_of_form = fold-Form (List Node) (List Node) (Option Ref → List Node) form_step stmt_step when_step

-- the nodes of a WHEN of a SELECT that compares this
abbrev pub nodes_of_when : When → Option Ref → List Node
nodes_of_when = fold-When (List Node) (List Node) (Option Ref → List Node) form_step stmt_step when_step

-- the nodes of WHENs, one after another
abbrev pub nodes_of_whens : Option Ref → List When → List Node
nodes_of_whens subject [] = []
nodes_of_whens subject (arm ∷ arms) = nodes_of_when arm subject ++ nodes_of_whens subject arms

-- the nodes of statements, one after another
abbrev pub nodes_of_block : List Stmt → List Node
nodes_of_block [] = []
nodes_of_block (statement ∷ statements) = nodes_of statement ++ nodes_of_block statements

-- the nodes of a statement that may be missing
abbrev pub nodes_of_optional : Option Stmt → List Node
nodes_of_optional None = []
nodes_of_optional (Some statement) = nodes_of statement
