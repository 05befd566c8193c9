-- What the checks ask of a variable where it stands in a routine (docs/manual/acs-language.md, Variables).
use Rattle.std.specs.Prelude.{◌&&◌, ◌||◌, ℕ, Bool, true, false, not, List, nat_lt, codes, Option, Some, None, is_some}
use Rattle.std.specs.Prelude.{is_none}
use Rattle.std.specs.Str.{bytes_eq}
use Rattle.acs_tree.specs.declared.kind.Kind.{Kind}
use Rattle.acs_tree.specs.declared.routine.Ref.{Ref}
use Rattle.acs_tree.specs.declared.variable.Indexing.{Indexing}
use Rattle.acs_tree.specs.declared.variable.Indexing.TheVariants.{Never, Maybe, Always}
use Rattle.acs_tree.specs.declared.variable.Variable.{Variable}
use Rattle.acs_tree.specs.declared.variable.VariableKind.{VariableKind}
use Rattle.acs_tree.specs.declared.variable.VariableKind.TheVariants.{Text, Number, Size}
use Rattle.acs_tree.specs.Numbers.{is_between}
use Rattle.acs_tree.specs.Variables.{variable_of, rank_of}

-- the name is that of a variable
abbrev pub is_known : Ref → Bool
is_known ref = is_some (variable_of ref.name)

-- there is such a variable and it passes the test
abbrev pub passes : (Variable → Bool) → Option Variable → Bool
passes test None = false
passes test (Some variable) = test variable

-- one text
abbrev pub is_text_kind : VariableKind → Bool
is_text_kind Text = true
is_text_kind _ = false

-- a number
abbrev pub is_number_kind : VariableKind → Bool
is_number_kind Number = true
is_number_kind _ = false

-- a number of KB
abbrev pub is_size_kind : VariableKind → Bool
is_size_kind Size = true
is_size_kind _ = false

-- what is compared by order
abbrev pub is_counted_kind : VariableKind → Bool
is_counted_kind kind = is_number_kind kind || is_size_kind kind

-- a variable that holds one text
abbrev pub is_text : Ref → Bool
is_text ref = passes (λ variable. is_text_kind variable.kind) (variable_of ref.name)

-- a variable that holds a number
abbrev pub is_number_variable : Ref → Bool
is_number_variable ref = passes (λ variable. is_number_kind variable.kind) (variable_of ref.name)

-- a variable that holds a size
abbrev pub is_size_variable : Ref → Bool
is_size_variable ref = passes (λ variable. is_size_kind variable.kind) (variable_of ref.name)

-- a variable that is compared by order
abbrev pub is_counted : Ref → Bool
is_counted ref = passes (λ variable. is_counted_kind variable.kind) (variable_of ref.name)

-- a variable that is compared with masks: of texts, of volumes or of groups
abbrev pub takes_masks : Ref → Bool
takes_masks ref = passes (λ variable. not (is_counted_kind variable.kind)) (variable_of ref.name)

-- the whole data set name, which is compared with masks of qualifiers
abbrev pub is_whole_name : Ref → Bool
is_whole_name ref = bytes_eq ref.name (codes "DSN") && is_none ref.index

-- &STORGRP, which takes several values
abbrev pub is_group_list : Ref → Bool
is_group_list ref = bytes_eq ref.name (codes "STORGRP")

-- there is an index, and the variable takes none, or there is none, and it needs one
abbrev pub is_misindexed_by : Indexing → Option (List ℕ) → Bool
is_misindexed_by Never index = is_some index
is_misindexed_by (Maybe most) index = false
is_misindexed_by (Always most) index = is_none index

-- the variable has an index that it does not take, or lacks one
abbrev pub is_misindexed : Ref → Bool
is_misindexed ref = passes (λ variable. is_misindexed_by variable.indexing ref.index) (variable_of ref.name)

-- there is an index, and it is no number from 1 to the most
abbrev pub is_outside : ℕ → Option (List ℕ) → Bool
is_outside most None = false
is_outside most (Some index) = not (is_between 1 most index)

-- the variable takes an index, and the one that stands there is no number of its range
abbrev pub is_out_of_range_by : Indexing → Option (List ℕ) → Bool
is_out_of_range_by Never index = false
is_out_of_range_by (Maybe most) index = is_outside most index
is_out_of_range_by (Always most) index = is_outside most index

-- the variable has an index out of its range
abbrev pub is_out_of_range : Ref → Bool
is_out_of_range ref = passes (λ variable. is_out_of_range_by variable.indexing ref.index) (variable_of ref.name)

-- set by a routine that runs later than one of that kind
abbrev pub is_later : Kind → Option Kind → Bool
is_later kind None = false
is_later kind (Some setter) = nat_lt (rank_of kind) (rank_of setter)

-- a variable that a later routine sets
abbrev pub is_set_later : Kind → Ref → Bool
is_set_later kind ref = passes (λ variable. is_later kind variable.set_by) (variable_of ref.name)
