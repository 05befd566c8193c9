-- What is compared in a routine, texts between quotes with wildcards, and filter lists that nothing uses
-- (docs/manual/tool.md, "Linting a deck").
use Rattle.std.specs.Prelude.{◌==◌, ◌||◌, ◌++◌, ℕ, Bool, true, false, List, [], ◌∷◌, flat_map}
use Rattle.std.specs.Prelude.{if◌then◌else◌}
use Rattle.std.specs.List.{list_any}
use Rattle.std.specs.Str.{bytes_eq}
use Rattle.desk_common.specs.Bytes.{star}
use Rattle.acs_tree.specs.declared.kind.Kind.{Kind}
use Rattle.acs_tree.specs.declared.kind.Kind.TheVariants.{DataClas, StorClas, MgmtClas, StorGrp}
use Rattle.acs_tree.specs.declared.routine.Cond.{Cond, fold-Cond}
use Rattle.acs_tree.specs.declared.routine.Cond.TheOpen.{Cond-F}
use Rattle.acs_tree.specs.declared.routine.Form.{Form}
use Rattle.acs_tree.specs.declared.routine.Form.TheOpen.{Form-F}
use Rattle.acs_tree.specs.declared.routine.Operand.{Operand}
use Rattle.acs_tree.specs.declared.routine.OperandForm.{OperandForm}
use Rattle.acs_tree.specs.declared.routine.OperandForm.TheVariants.{Literal, Word, Var}
use Rattle.acs_tree.specs.declared.routine.Stmt.{Stmt}
use Rattle.acs_tree.specs.declared.routine.When.{When, out-When}
use Rattle.acs_tree.specs.declared.routine.WhenTest.{WhenTest}
use Rattle.acs_tree.specs.declared.routine.WhenTest.TheVariants.{Any, Holds}
use Rattle.acs_tree.specs.declared.routine.Routine.{Routine}
use Rattle.acs_tree.specs.declared.values.Values.{Values}
use Rattle.acs_lint.specs.Statements.{shape_of, statements_of}
use Rattle.acs_lint.specs.declared.finding.Finding.{Finding}
use Rattle.acs_lint.specs.declared.finding.Finding.TheVariants.{Quoted, Unused}

-- the right sides of the comparisons of a condition, from those of the conditions in it
abbrev pub cond_step : Cond-F (List Operand) → List Operand
cond_step (Cond-F.And one two) = one ++ two
cond_step (Cond-F.Or one two) = one ++ two
cond_step (Cond-F.Test left op op_at right) = right ∷ []

-- the right sides of the comparisons of a condition
abbrev pub operands_of_cond : Cond → List Operand
operands_of_cond = fold-Cond (List Operand) cond_step

-- the right sides of the comparisons of a WHEN
abbrev pub operands_of_test : WhenTest → List Operand
operands_of_test (Any items) = items
operands_of_test (Holds cond) = operands_of_cond cond

-- what is compared in a statement, but for those inside it: the entries of a filter list, and the right sides of
-- comparisons
abbrev pub operands_at : Form-F Form Stmt When → List Operand
operands_at (Form-F.Filt name name_at include exclude) = include ++ exclude
operands_at (Form-F.Put target values) = []
operands_at (Form-F.If cond first otherwise) = operands_of_cond cond
operands_at (Form-F.Pick subject whens otherwise) = flat_map (λ arm. operands_of_test (out-When arm).test) whens
operands_at (Form-F.Do block) = []
operands_at (Form-F.Write parts) = []
operands_at (Form-F.Exit code) = []

-- what is compared in statements
abbrev pub operands_in : List Stmt → List Operand
operands_in statements = flat_map (λ (statement : Stmt). operands_at (shape_of statement.form)) statements

-- texts between quotes

-- a star or `%` (37)
abbrev pub is_wildcard : ℕ → Bool
is_wildcard byte = byte == star || byte == 37

-- the finding on a text between quotes that has a wildcard; on another operand none
abbrev pub quoted_by : ℕ → OperandForm → List Finding
quoted_by at (Literal text) = if list_any is_wildcard text then Quoted at ∷ [] else []
quoted_by at (Word word) = []
quoted_by at (Var ref) = []

-- the findings on texts between quotes
abbrev pub quoted_in : List Operand → List Finding
quoted_in operands = flat_map (λ (operand : Operand). quoted_by operand.at operand.form) operands

-- filter lists

-- the name that an operand is; another operand is none
abbrev pub name_by : OperandForm → List (List ℕ)
name_by (Literal text) = []
name_by (Word word) = []
name_by (Var ref) = ref.name ∷ []

-- the names among operands
abbrev pub names_in : List Operand → List (List ℕ)
names_in operands = flat_map (λ (operand : Operand). name_by operand.form) operands

-- the finding on a filter list that none of the names is; on another statement none
abbrev pub unused_at : List (List ℕ) → Form-F Form Stmt When → List Finding
unused_at names (Form-F.Filt name name_at include exclude) =
    if list_any (bytes_eq name) names then [] else Unused name_at ∷ []
unused_at names (Form-F.Put target values) = []
unused_at names (Form-F.If cond first otherwise) = []
unused_at names (Form-F.Pick subject whens otherwise) = []
unused_at names (Form-F.Do block) = []
unused_at names (Form-F.Write parts) = []
unused_at names (Form-F.Exit code) = []

-- the findings on filter lists that none of the names is
abbrev pub unused_in : List (List ℕ) → List Stmt → List Finding
unused_in names statements = flat_map (λ (statement : Stmt). unused_at names (shape_of statement.form)) statements

-- what SETs set

-- the values that a statement sets, but for the statements inside it
abbrev pub values_at : Form-F Form Stmt When → List Operand
values_at (Form-F.Filt name name_at include exclude) = []
values_at (Form-F.Put target values) = values
values_at (Form-F.If cond first otherwise) = []
values_at (Form-F.Pick subject whens otherwise) = []
values_at (Form-F.Do block) = []
values_at (Form-F.Write parts) = []
values_at (Form-F.Exit code) = []

-- the values that statements set
abbrev pub values_in : List Stmt → List Operand
values_in statements = flat_map (λ (statement : Stmt). values_at (shape_of statement.form)) statements

-- the values that the SETs of a routine set
abbrev pub values_of : Routine → List Operand
values_of routine = values_in (statements_of routine)

-- a value may be this text: it is the text, or a variable
abbrev pub may_be : List ℕ → OperandForm → Bool
may_be text (Literal other) = bytes_eq text other
may_be text (Word word) = false
may_be text (Var ref) = true

-- one of the values may be this text
abbrev pub may_be_set : List ℕ → List Operand → Bool
may_be_set text values = list_any (λ (value : Operand). may_be text value.form) values

-- what the variable of a kind holds: its class, or the storage groups
abbrev pub held_of : Kind → Values → List (List ℕ)
held_of DataClas values = values.dataclas ∷ []
held_of StorClas values = values.storclas ∷ []
held_of MgmtClas values = values.mgmtclas ∷ []
held_of StorGrp values = values.groups
