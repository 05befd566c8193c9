-- What SET sets (docs/manual/acs-language.md, Meaning).
use Rattle.std.specs.Prelude.{◌&&◌, ◌++◌, ℕ, Bool, List, [], ◌∷◌, length, nat_lt, not, if◌then◌else◌}
use Rattle.std.specs.List.{list_any}
use Rattle.std.specs.Str.{bytes_eq}
use Rattle.desk_common.specs.Limits.{most_groups_set}
use Rattle.dsn_mask.specs.Name.{is_name, is_short}
use Rattle.acs_tree.specs.declared.input.Input.{Input}
use Rattle.acs_tree.specs.declared.kind.Kind.{Kind}
use Rattle.acs_tree.specs.declared.kind.Kind.TheVariants.{DataClas, StorClas, MgmtClas, StorGrp}
use Rattle.acs_tree.specs.declared.routine.Operand.{Operand}
use Rattle.acs_tree.specs.declared.routine.OperandForm.{OperandForm}
use Rattle.acs_tree.specs.declared.routine.OperandForm.TheVariants.{Literal, Word, Var}
use Rattle.acs_tree.specs.declared.routine.Ref.{Ref}
use Rattle.acs_tree.specs.declared.values.Values.{Values}
use Rattle.acs_tree.specs.Outcome.{Action, falls, nothing}
use Rattle.acs_tree.specs.Value.{Value, Text}
use Rattle.acs_tree.specs.Variables.{index_of, name_of, variable_value}

-- the text where a class may have it, and else null
abbrev pub as_class : List ℕ → List ℕ
as_class text = if is_short text then text else []

-- a value that is a text, and else null
abbrev pub text_of : Value → List ℕ
text_of (Text text) = text
text_of _ = []

-- what a class is set to
abbrev pub class_from : OperandForm → Input → Values → List ℕ
class_from (Literal text) input values = as_class text
class_from (Word word) input values = []
class_from (Var ref) input values = text_of (variable_value ref.name (index_of ref.index) input values)

-- the class of that kind with another value
abbrev pub with_class : Kind → List ℕ → Values → Values
with_class DataClas class values = record values { dataclas = class }
with_class StorClas class values = record values { storclas = class }
with_class MgmtClas class values = record values { mgmtclas = class }
with_class StorGrp class values = values

-- SET of a class takes the first value
abbrev pub class_set : Kind → List Operand → Action
class_set kind [] input values = falls values
class_set kind (value ∷ more) input values = falls (with_class kind (class_from value.form input values) values)

-- a name that is not among the groups, where there is room for one more
abbrev pub is_new_group : List (List ℕ) → List ℕ → Bool
is_new_group groups name =
    nat_lt (length groups) most_groups_set && (is_name name && not (list_any (bytes_eq name) groups))

-- the groups with that value behind them
abbrev pub with_group : List (List ℕ) → OperandForm → List (List ℕ)
with_group groups (Literal text) = if is_new_group groups text then groups ++ text ∷ [] else groups
with_group groups (Word word) = groups
with_group groups (Var ref) = groups

-- the names among the values, each once, behind the groups that are there
abbrev pub groups_behind : List (List ℕ) → List Operand → List (List ℕ)
groups_behind groups [] = groups
groups_behind groups (value ∷ values) = groups_behind (with_group groups value.form) values

-- SET of the group list replaces it; '' is no name, so that it empties the list
abbrev pub groups_set : List Operand → Action
groups_set operands input values = falls (record values { groups = groups_behind [] operands })

-- SET of the variable of a kind
abbrev pub kind_set : Kind → List Operand → Action
kind_set DataClas operands = class_set DataClas operands
kind_set StorClas operands = class_set StorClas operands
kind_set MgmtClas operands = class_set MgmtClas operands
kind_set StorGrp operands = groups_set operands

-- SET in a routine of that kind; a routine sets the variable of its kind alone
abbrev pub sets : Kind → Ref → List Operand → Action
sets kind target operands = if bytes_eq target.name (name_of kind) then kind_set kind operands else nothing
