-- What stands on the right of a comparison (docs/manual/acs-language.md, Meaning).
use Rattle.std.specs.Prelude.{ℕ, Bool, List, Option, Some, None, filter_map, if◌then◌else◌}
use Rattle.std.specs.Option.{option_map}
use Rattle.dsn_mask.specs.Filter.{FilterLists}
use Rattle.dsn_mask.specs.MaskText.{mask_of, simple_of}
use Rattle.dsn_mask.specs.declared.entry.Entry.{Entry}
use Rattle.dsn_mask.specs.declared.entry.Entry.TheVariants as entry
use Rattle.acs_tree.specs.declared.routine.Operand.{Operand}
use Rattle.acs_tree.specs.declared.routine.OperandForm.{OperandForm}
use Rattle.acs_tree.specs.declared.routine.OperandForm.TheVariants as operand
use Rattle.acs_tree.specs.declared.routine.Ref.{Ref}
use Rattle.acs_tree.specs.declared.routine.Stmt.{Stmt}
use Rattle.acs_tree.specs.declared.variable.Variable.{Variable}
use Rattle.acs_tree.specs.declared.variable.VariableKind.{VariableKind}
use Rattle.acs_tree.specs.declared.variable.VariableKind.TheVariants as kind
use Rattle.acs_tree.specs.FilterLists.{FilterList, list_named}
use Rattle.acs_tree.specs.Numbers.{greatest, number_of, size_of, within}
use Rattle.acs_tree.specs.References.{is_known, is_whole_name}
use Rattle.acs_tree.specs.Variables.{index_of, variable_of}

-- what a variable is compared with
pub data Comparand : Type 0 where
  -- a text
  Literal : List ℕ → Comparand
  -- a mask of qualifiers
  Dots : List ℕ → Comparand
  -- a simple mask
  Plain : List ℕ → Comparand
  -- a filter list
  Filter : FilterLists → Comparand
  -- the variable of that name and that index
  Var : List ℕ → ℕ → Comparand
  -- a number, or a size in KB
  Number : ℕ → Comparand
  -- what no check lets through: it equals nothing, and is neither more nor less
  Nothing : Comparand

-- filter lists

-- an entry of a filter list, as it is compared with the whole data set name or with another text; what is no such mask
-- is left out
abbrev pub entry_of : Bool → OperandForm → Option Entry
entry_of whole (operand.Literal text) = Some (entry.Quoted text)
entry_of whole (operand.Word word) =
    if whole then option_map entry.Dots (mask_of word) else option_map entry.Plain (simple_of word)
entry_of whole (operand.Var ref) = None

-- the entries of an INCLUDE or an EXCLUDE
abbrev pub entries_of : Bool → List Operand → List Entry
entries_of whole operands = filter_map (λ (operand : Operand). entry_of whole operand.form) operands

-- a filter list, as it is compared with the whole data set name or with another text
abbrev pub filter_of : Bool → FilterList → FilterLists
filter_of whole list = record { include = entries_of whole list.include; exclude = entries_of whole list.exclude }

-- words

-- what is there, if anything is
abbrev pub comparand_or : {A : Type 0} → (A → Comparand) → Option A → Comparand
comparand_or make None = Nothing
comparand_or make (Some found) = make found

-- a mask beside the whole data set name, a simple mask beside another text
abbrev pub mask_comparand : Bool → List ℕ → Comparand
mask_comparand whole word = if whole then comparand_or Dots (mask_of word) else comparand_or Plain (simple_of word)

-- a word beside a variable of that kind: a mask, or a number or a size that is not past the greatest
abbrev pub word_beside : VariableKind → Bool → List ℕ → Comparand
word_beside kind.Text whole word = mask_comparand whole word
word_beside kind.Volumes whole word = mask_comparand whole word
word_beside kind.Groups whole word = mask_comparand whole word
word_beside kind.Number whole word = comparand_or Number (within 0 greatest (number_of word))
word_beside kind.Size whole word = comparand_or Number (within 0 greatest (size_of word))

-- a word beside that variable, if there is one
abbrev pub word_comparand : Option Variable → Bool → List ℕ → Comparand
word_comparand None whole word = Nothing
word_comparand (Some variable) whole word = word_beside variable.kind whole word

-- a filter list, if there is one
abbrev pub list_comparand : Bool → Option FilterList → Comparand
list_comparand whole list = comparand_or (λ found. Filter (filter_of whole found)) list

-- a variable, or the filter list of that name where there is no such variable
abbrev pub name_comparand : List Stmt → Bool → Ref → Comparand
name_comparand body whole ref =
    if is_known ref then Var ref.name (index_of ref.index) else list_comparand whole (list_named body ref.name)

-- an operand beside a variable, in a routine of that body
abbrev pub form_comparand : List Stmt → Ref → OperandForm → Comparand
form_comparand body left (operand.Literal text) = Literal text
form_comparand body left (operand.Word word) = word_comparand (variable_of left.name) (is_whole_name left) word
form_comparand body left (operand.Var ref) = name_comparand body (is_whole_name left) ref

-- the right side of a comparison beside its left side
abbrev pub comparand_of : List Stmt → Ref → Operand → Comparand
comparand_of body left operand = form_comparand body left operand.form
