-- The nodes of a routine: what the checks look at, one by one (docs/manual/acs-language.md, Checks).
use Rattle.std.specs.Prelude.{ℕ, suc, List, [], ◌∷◌, ◌++◌, map, Option, Some, None}
use Rattle.acs_tree.specs.declared.routine.Compare.{Compare}
use Rattle.acs_tree.specs.declared.routine.Cond.{Cond, fold-Cond}
use Rattle.acs_tree.specs.declared.routine.Cond.TheOpen.{Cond-F}
use Rattle.acs_tree.specs.declared.routine.Form.TheOpen.{Form-F, Stmt-F, When-F}
use Rattle.acs_tree.specs.declared.routine.Operand.{Operand}
use Rattle.acs_tree.specs.declared.routine.Ref.{Ref}
use Rattle.acs_tree.specs.declared.routine.Stmt.{Stmt, fold-Stmt}
use Rattle.acs_tree.specs.declared.routine.WhenTest.{WhenTest}
use Rattle.acs_tree.specs.declared.routine.WhenTest.TheVariants.{Any, Holds}

-- a part of a routine
pub data Node : Type 0 where
  -- the name at the routine's head, and its token
  Head : List ℕ → ℕ → Node
  -- the name of a filter list, and its token
  ListName : List ℕ → ℕ → Node
  -- an entry of an INCLUDE or an EXCLUDE, behind so many others
  Entry : ℕ → Operand → Node
  -- the variable that a SET sets
  Target : Ref → Node
  -- a value of a SET: the variable that is set, the values before it, the value, and the values behind it
  Value : Ref → List Operand → Operand → List Operand → Node
  -- a part of a line that is written
  Part : Operand → Node
  -- the left side of a comparison, or what a SELECT compares
  Left : Ref → Node
  -- the left side of a comparison, the comparison, and its token
  Order : Ref → Compare → ℕ → Node
  -- an operand and the variable that it is compared with; none in a WHEN of a SELECT that compares nothing
  Right : Option Ref → Operand → Node
  -- the code of an EXIT
  Code : Operand → Node

-- the entries of a list behind so many others
abbrev pub entries_behind : ℕ → List Operand → List Node
entries_behind count [] = []
entries_behind count (entry ∷ entries) = Entry count entry ∷ entries_behind (suc count) entries

-- the values of a SET behind others
abbrev pub values_behind : Ref → List Operand → List Operand → List Node
values_behind target before [] = []
values_behind target before (value ∷ behind) =
    Value target before value behind ∷ values_behind target (before ++ value ∷ []) behind

-- the nodes of a condition, from those of the conditions in it
abbrev pub cond_step : Cond-F (List Node) → List Node
cond_step (Cond-F.And one two) = one ++ two
cond_step (Cond-F.Or one two) = one ++ two
cond_step (Cond-F.Test left op op_at right) = Left left ∷ Order left op op_at ∷ Right (Some left) right ∷ []

-- the nodes of a condition
abbrev pub nodes_of_cond : Cond → List Node
nodes_of_cond = fold-Cond (List Node) cond_step

-- the nodes of a WHEN of a SELECT that compares this
abbrev pub nodes_of_test : WhenTest → Option Ref → List Node
nodes_of_test (Any items) subject = map (Right subject) items
nodes_of_test (Holds cond) subject = nodes_of_cond cond

-- the node of what a SELECT compares, if it compares something
abbrev pub nodes_of_subject : Option Ref → List Node
nodes_of_subject None = []
nodes_of_subject (Some subject) = Left subject ∷ []

-- the node of an exit code, if there is one
abbrev pub nodes_of_code : Option Operand → List Node
nodes_of_code None = []
nodes_of_code (Some code) = Code code ∷ []

-- the nodes of what is done otherwise, if anything is
abbrev pub nodes_of_otherwise : Option (List Node) → List Node
nodes_of_otherwise None = []
nodes_of_otherwise (Some nodes) = nodes

-- one after another
abbrev pub joined : List (List Node) → List Node
joined [] = []
joined (nodes ∷ more) = nodes ++ joined more

-- the nodes of the WHENs of a SELECT that compares this
abbrev pub whens_of : Option Ref → List (Option Ref → List Node) → List Node
whens_of subject [] = []
whens_of subject (arm ∷ arms) = arm subject ++ whens_of subject arms

-- the nodes of what a statement is, from those of the statements in it
abbrev pub form_step : Form-F (List Node) (List Node) (Option Ref → List Node) → List Node
form_step (Form-F.Filt name name_at include exclude) =
    ListName name name_at ∷ (entries_behind 0 include ++ entries_behind 0 exclude)
form_step (Form-F.Put target values) = Target target ∷ values_behind target [] values
form_step (Form-F.If cond first otherwise) = nodes_of_cond cond ++ (first ++ nodes_of_otherwise otherwise)
form_step (Form-F.Pick subject whens otherwise) =
    nodes_of_subject subject ++ (whens_of subject whens ++ nodes_of_otherwise otherwise)
form_step (Form-F.Do block) = joined block
form_step (Form-F.Write parts) = map Part parts
form_step (Form-F.Exit code) = nodes_of_code code

-- the nodes of a statement, from those of what it is
abbrev pub stmt_step : Stmt-F (List Node) (List Node) (Option Ref → List Node) → List Node
stmt_step statement = statement.form

-- the nodes of a WHEN, from those of the statement in it; they depend on what the SELECT compares
abbrev pub when_step : When-F (List Node) (List Node) (Option Ref → List Node) → Option Ref → List Node
when_step arm subject = nodes_of_test arm.test subject ++ arm.body

-- the nodes of a statement
abbrev pub nodes_of : Stmt → List Node
nodes_of = fold-Stmt (List Node) (List Node) (Option Ref → List Node) form_step stmt_step when_step
