-- Filter lists by their names, and their words (docs/manual/acs-language.md, Filter lists, Checks).
use Rattle.std.specs.Prelude.{◌&&◌, ℕ, Bool, true, not, List, Option, Some, None, filter_map, find, is_some, is_none}
use Rattle.std.specs.List.{list_all}
use Rattle.std.specs.Str.{bytes_eq}
use Rattle.dsn_mask.specs.MaskText.{mask_of, simple_of}
use Rattle.acs_tree.specs.declared.routine.Form.{Form}
use Rattle.acs_tree.specs.declared.routine.Form.TheBlock.{Filt}
use Rattle.acs_tree.specs.declared.routine.Operand.{Operand}
use Rattle.acs_tree.specs.declared.routine.OperandForm.{OperandForm}
use Rattle.acs_tree.specs.declared.routine.OperandForm.TheVariants.{Literal, Word, Var}
use Rattle.acs_tree.specs.declared.routine.Ref.{Ref}
use Rattle.acs_tree.specs.declared.routine.Stmt.{Stmt}
use Rattle.acs_tree.specs.References.{is_known}

-- a word that is a mask
abbrev pub is_mask : List ℕ → Bool
is_mask word = is_some (mask_of word)

-- a word that is a simple mask
abbrev pub is_simple : List ℕ → Bool
is_simple word = is_some (simple_of word)

-- a filter list: its name and its entries
pub record FilterList : Type 0 where
  pub name : List ℕ
  pub include : List Operand
  pub exclude : List Operand

-- the filter list that a statement is, if it is one
abbrev pub list_of : Form → Option FilterList
list_of (Filt name name_at include exclude) = Some (record { name = name; include = include; exclude = exclude })
list_of _ = None

-- the filter lists among statements
abbrev pub lists_in : List Stmt → List FilterList
lists_in statements = filter_map (λ (statement : Stmt). list_of statement.form) statements

-- the first filter list of that name among statements
abbrev pub list_named : List Stmt → List ℕ → Option FilterList
list_named statements name = find (λ (list : FilterList). bytes_eq list.name name) (lists_in statements)

-- one of the statements is a filter list of that name
abbrev pub is_list : List Stmt → List ℕ → Bool
is_list before name = is_some (list_named before name)

-- no variable, but the name of an earlier filter list, with no index
abbrev pub is_list_ref : List Stmt → Ref → Bool
is_list_ref before ref = not (is_known ref) && (is_none ref.index && is_list before ref.name)

-- an entry that is no word, or a word that is a simple mask
abbrev pub is_simple_entry : OperandForm → Bool
is_simple_entry (Literal text) = true
is_simple_entry (Word word) = is_simple word
is_simple_entry (Var ref) = true

-- each word among the entries is a simple mask
abbrev pub are_simple : List Operand → Bool
are_simple entries = list_all (λ entry. is_simple_entry entry.form) entries

-- no filter list, or one whose words are simple masks
abbrev pub is_simple_list : Option FilterList → Bool
is_simple_list None = true
is_simple_list (Some list) = are_simple list.include && are_simple list.exclude
