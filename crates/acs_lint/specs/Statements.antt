-- The statements of a routine, those inside others too.
use Rattle.std.specs.Prelude.{List, [], ◌∷◌, ◌++◌, flat_map, Option, None, Some}
use Rattle.acs_tree.specs.declared.routine.Form.{Form, fold-Form, roll-Form, map-Form}
use Rattle.acs_tree.specs.declared.routine.Form.TheOpen.{Form-F, Stmt-F, When-F}
use Rattle.acs_tree.specs.declared.routine.Routine.{Routine}
use Rattle.acs_tree.specs.declared.routine.Stmt.{Stmt, fold-Stmt, roll-Stmt, map-Stmt}
use Rattle.acs_tree.specs.declared.routine.When.{When, roll-When, map-When}

-- what a statement is: the same, what it is made of, and the statements inside
pub record FormParts : Type 0 where
  pub self : Form
  pub shape : Form-F Form Stmt When
  pub inside : List Stmt

-- a statement: the same, and itself with the statements inside
pub record StmtParts : Type 0 where
  pub self : Stmt
  pub all : List Stmt

-- a WHEN: the same, and the statements inside
pub record WhenParts : Type 0 where
  pub self : When
  pub inside : List Stmt

-- the statements of what is done otherwise, if anything is
abbrev pub or_no_statement : Option StmtParts → List Stmt
or_no_statement None = []
or_no_statement (Some parts) = parts.all

-- the statements inside of what a statement is
abbrev pub inside_step : Form-F FormParts StmtParts WhenParts → List Stmt
inside_step (Form-F.Filt name name_at include exclude) = []
inside_step (Form-F.Put target values) = []
inside_step (Form-F.If cond first otherwise) = first.all ++ or_no_statement otherwise
inside_step (Form-F.Pick subject whens otherwise) = flat_map (λ arm. arm.inside) whens ++ or_no_statement otherwise
inside_step (Form-F.Do block) = flat_map (λ parts. parts.all) block
inside_step (Form-F.Write parts) = []
inside_step (Form-F.Exit code) = []

-- what a statement is made of
abbrev pub shape_step : Form-F FormParts StmtParts WhenParts → Form-F Form Stmt When
shape_step parts =
    map-Form FormParts StmtParts WhenParts Form Stmt When (λ form. form.self) (λ statement. statement.self)
    (λ arm. arm.self) parts

-- the parts of what a statement is, from those of the statements in it
abbrev pub form_step : Form-F FormParts StmtParts WhenParts → FormParts
form_step parts = record { self = roll-Form (shape_step parts); shape = shape_step parts; inside = inside_step parts }

-- a statement, from what it is
abbrev pub self_step : Stmt-F FormParts StmtParts WhenParts → Stmt
self_step parts =
    roll-Stmt (map-Stmt FormParts StmtParts WhenParts Form Stmt When (λ form. form.self) (λ statement. statement.self)
    (λ arm. arm.self) parts)

-- the parts of a statement, from those of what it is
abbrev pub stmt_step : Stmt-F FormParts StmtParts WhenParts → StmtParts
stmt_step parts = record { self = self_step parts; all = self_step parts ∷ parts.form.inside }

-- the parts of a WHEN, from those of its statement
abbrev pub when_step : When-F FormParts StmtParts WhenParts → WhenParts
when_step parts = record {
  self =
      roll-When (map-When FormParts StmtParts WhenParts Form Stmt When (λ form. form.self)
      (λ statement. statement.self) (λ arm. arm.self) parts);
  inside = parts.body.all;
}

-- the parts of what a statement is
abbrev pub form_parts : Form → FormParts
form_parts = fold-Form FormParts StmtParts WhenParts form_step stmt_step when_step

-- the parts of a statement
abbrev pub stmt_parts : Stmt → StmtParts
stmt_parts = fold-Stmt FormParts StmtParts WhenParts form_step stmt_step when_step

-- what a statement is made of
abbrev pub shape_of : Form → Form-F Form Stmt When
shape_of form = (form_parts form).shape

-- a statement, and those inside it, in the order of the text
abbrev pub statements_in : Stmt → List Stmt
statements_in statement = (stmt_parts statement).all

-- the statements of a routine, in the order of the text
abbrev pub statements_of : Routine → List Stmt
statements_of routine = flat_map statements_in routine.body
