-- The constructs that a routine sets by name.
use Rattle.std.specs.Prelude.{ℕ, List, [], ◌∷◌, ◌++◌, not, Option, Some, None, find}
use Rattle.std.specs.List.{cons_option}
use Rattle.toml.specs.Data.{Members}
use Rattle.dsn_mask.specs.Name.{name_of}
use Rattle.acs_tree.specs.declared.routine.Form.{Form, fold-Form}
use Rattle.acs_tree.specs.declared.routine.Form.TheOpen.{Form-F, Stmt-F, When-F}
use Rattle.acs_tree.specs.declared.routine.Operand.{Operand}
use Rattle.acs_tree.specs.declared.routine.OperandForm.{OperandForm}
use Rattle.acs_tree.specs.declared.routine.OperandForm.TheVariants.{Literal, Word, Var}
use Rattle.acs_tree.specs.declared.routine.Stmt.{Stmt, fold-Stmt}
use Rattle.acs_tree.specs.declared.routine.When.{When, fold-When}
use Rattle.deck_meaning.specs.Layout.{has}

-- the name that a literal spells; the literal '' spells none
abbrev pub literal_name : OperandForm → Option (List ℕ)
literal_name (Literal text) = name_of text
literal_name (Word word) = None
literal_name (Var ref) = None

-- the names among the values of a SET
abbrev pub literal_names : List Operand → List (List ℕ)
literal_names [] = []
literal_names (value ∷ values) = cons_option (literal_name value.form) (literal_names values)

-- the names of what is done otherwise, if anything
abbrev pub or_no_names : Option (List (List ℕ)) → List (List ℕ)
or_no_names None = []
or_no_names (Some names) = names

-- one after another
abbrev pub joined : List (List (List ℕ)) → List (List ℕ)
joined [] = []
joined (names ∷ more) = names ++ joined more

-- the names in what a statement is, from those in the statements inside
abbrev pub form_step : Form-F (List (List ℕ)) (List (List ℕ)) (List (List ℕ)) → List (List ℕ)
form_step (Form-F.Filt name name_at include exclude) = []
form_step (Form-F.Put target values) = literal_names values
form_step (Form-F.If cond first other) = first ++ or_no_names other
form_step (Form-F.Pick subject whens other) = joined whens ++ or_no_names other
form_step (Form-F.Do body) = joined body
form_step (Form-F.Write parts) = []
form_step (Form-F.Exit code) = []

-- the names in a statement, from those in what it is
abbrev pub stmt_step : Stmt-F (List (List ℕ)) (List (List ℕ)) (List (List ℕ)) → List (List ℕ)
stmt_step statement = statement.form

-- the names in a WHEN, from those in the statement inside
abbrev pub when_step : When-F (List (List ℕ)) (List (List ℕ)) (List (List ℕ)) → List (List ℕ)
when_step when = when.body

-- the names that the SETs of a statement set, in the order of the text
abbrev pub assigned_in : Stmt → List (List ℕ)
assigned_in = fold-Stmt (List (List ℕ)) (List (List ℕ)) (List (List ℕ)) form_step stmt_step when_step

-- the names that the SETs of statements set, in the order of the text
abbrev pub assigned_by : List Stmt → List (List ℕ)
assigned_by [] = []
assigned_by (statement ∷ statements) = assigned_in statement ++ assigned_by statements

-- the first of the names that the table of constructs hasn't
abbrev pub first_unknown : Members → List (List ℕ) → Option (List ℕ)
first_unknown constructs names = find (λ name. not (has name constructs)) names

-- the names set inside a statement
abbrev pub assigned_in_form : Form → List (List ℕ)
assigned_in_form = fold-Form (List (List ℕ)) (List (List ℕ)) (List (List ℕ)) form_step stmt_step when_step

-- the names set behind a WHEN
abbrev pub assigned_in_when : When → List (List ℕ)
assigned_in_when = fold-When (List (List ℕ)) (List (List ℕ)) (List (List ℕ)) form_step stmt_step when_step

-- the names set behind several WHENs
abbrev pub assigned_in_whens : List When → List (List ℕ)
assigned_in_whens [] = []
assigned_in_whens (when ∷ whens) = assigned_in_when when ++ assigned_in_whens whens

-- the names set behind OTHERWISE or ELSE, if there is one
abbrev pub assigned_in_other : Option Stmt → List (List ℕ)
assigned_in_other None = []
assigned_in_other (Some statement) = assigned_in statement
