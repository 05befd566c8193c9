-- What the checks ask of operands (docs/manual/acs-language.md, Kinds that suit).
use Rattle.std.specs.Prelude.{◌&&◌, ◌||◌, ℕ, Bool, true, false, not, List, [], ◌∷◌, Option, Some, None, is_none}
use Rattle.std.specs.Prelude.{is_some, if◌then◌else◌}
use Rattle.std.specs.List.{list_any}
use Rattle.std.specs.Str.{bytes_eq}
use Rattle.dsn_mask.specs.Name.{name_of as construct_of}
use Rattle.acs_tree.specs.declared.routine.Compare.{Compare}
use Rattle.acs_tree.specs.declared.routine.Compare.TheVariants.{Eq, Ne}
use Rattle.acs_tree.specs.declared.routine.Operand.{Operand}
use Rattle.acs_tree.specs.declared.routine.OperandForm.{OperandForm}
use Rattle.acs_tree.specs.declared.routine.OperandForm.TheVariants.{Literal, Word, Var}
use Rattle.acs_tree.specs.declared.routine.Ref.{Ref}
use Rattle.acs_tree.specs.declared.routine.Stmt.{Stmt}
use Rattle.acs_tree.specs.declared.variable.VariableKind.{VariableKind}
use Rattle.acs_tree.specs.declared.variable.VariableKind.TheVariants.{Text, Number, Size, Volumes, Groups}
use Rattle.acs_tree.specs.FilterLists.{is_mask, is_simple, is_list_ref, is_simple_list, list_named}
use Rattle.acs_tree.specs.Numbers.{is_past_greatest, number_of, size_of}
use Rattle.acs_tree.specs.References.{is_known, passes, is_text, is_number_variable, is_size_variable, takes_masks}
use Rattle.acs_tree.specs.References.{is_whole_name, is_group_list, is_out_of_range}
use Rattle.acs_tree.specs.Variables.{variable_of}

-- the token of what stands at this token: of a variable, the variable's own
abbrev pub token_by : ℕ → OperandForm → ℕ
token_by at (Literal text) = at
token_by at (Word word) = at
token_by at (Var ref) = ref.at

-- the token of an operand
abbrev pub token_of : Operand → ℕ
token_of operand = token_by operand.at operand.form

-- the operand is a variable that passes the test
abbrev pub is_var_with : (Ref → Bool) → OperandForm → Bool
is_var_with test (Literal text) = false
is_var_with test (Word word) = false
is_var_with test (Var ref) = test ref

-- the operand is a word that passes the test
abbrev pub is_word_with : (List ℕ → Bool) → OperandForm → Bool
is_word_with test (Literal text) = false
is_word_with test (Word word) = test word
is_word_with test (Var ref) = false

-- the operand is a literal that passes the test
abbrev pub is_literal_with : (List ℕ → Bool) → OperandForm → Bool
is_literal_with test (Literal text) = test text
is_literal_with test (Word word) = false
is_literal_with test (Var ref) = false

-- there is a left side and it passes the test
abbrev pub is_left_with : (Ref → Bool) → Option Ref → Bool
is_left_with test None = false
is_left_with test (Some left) = test left

-- the operand names an earlier filter list
abbrev pub is_listed : List Stmt → OperandForm → Bool
is_listed before form = is_var_with (is_list_ref before) form

-- the operand is a name without an index that is no variable's
abbrev pub is_plain_unknown : OperandForm → Bool
is_plain_unknown form = is_var_with (λ ref. not (is_known ref) && is_none ref.index) form

-- what suits a text variable; here and below `listed` says that the operand names an earlier filter list
abbrev pub suits_text : Bool → OperandForm → Bool
suits_text listed (Literal text) = true
suits_text listed (Word word) = true
suits_text listed (Var ref) = listed || is_text ref

-- what suits the volumes
abbrev pub suits_volumes : Bool → OperandForm → Bool
suits_volumes listed (Literal text) = true
suits_volumes listed (Word word) = true
suits_volumes listed (Var ref) = listed

-- what suits a number
abbrev pub suits_number : OperandForm → Bool
suits_number (Literal text) = false
suits_number (Word word) = is_some (number_of word)
suits_number (Var ref) = is_number_variable ref

-- what suits a size
abbrev pub suits_size : OperandForm → Bool
suits_size (Literal text) = false
suits_size (Word word) = is_some (size_of word)
suits_size (Var ref) = is_size_variable ref

-- what suits a variable of that kind; the group list counts as a text
abbrev pub suits_kind : Bool → OperandForm → VariableKind → Bool
suits_kind listed form Text = suits_text listed form
suits_kind listed form Groups = suits_text listed form
suits_kind listed form Volumes = suits_volumes listed form
suits_kind listed form Number = suits_number form
suits_kind listed form Size = suits_size form

-- the operand may be compared with that left side
abbrev pub suits : Bool → Option Ref → OperandForm → Bool
suits listed left form =
    is_left_with (λ ref. passes (λ variable. suits_kind listed form variable.kind) (variable_of ref.name)) left

-- the operand may be a value of SET: of the group list a literal, of another variable a literal or a text variable
abbrev pub suits_set : Ref → OperandForm → Bool
suits_set target (Literal text) = true
suits_set target (Word word) = false
suits_set target (Var ref) = not (is_group_list target) && is_text ref

-- a comparison by order
abbrev pub is_order : Compare → Bool
is_order Eq = false
is_order Ne = false
is_order _ = true

-- the token, where a check is broken
abbrev pub token_if : Bool → ℕ → Option ℕ
token_if broken at = if broken then Some at else None

-- a literal that no SET takes: '' beside other values, or another text that is no construct name
abbrev pub is_bad_literal : List Operand → List Operand → List ℕ → Bool
is_bad_literal [] [] [] = false
is_bad_literal before behind [] = true
is_bad_literal before behind (byte ∷ bytes) = is_none (construct_of (byte ∷ bytes))

-- a number beside a number, or a size beside a size, that is past the greatest
abbrev pub is_too_great : Option Ref → List ℕ → Bool
is_too_great left word =
    (is_left_with is_number_variable left && is_past_greatest (number_of word)) ||
    (is_left_with is_size_variable left && is_past_greatest (size_of word))

-- the index of a variable, where it is out of its range
abbrev pub range_token : OperandForm → Option ℕ
range_token (Literal text) = None
range_token (Word word) = None
range_token (Var ref) = token_if (is_out_of_range ref) ref.index_at

-- a mask that suits that variable: of the whole data set name one of qualifiers, of another a simple one
abbrev pub is_mask_beside : Ref → List ℕ → Bool
is_mask_beside ref word = if is_whole_name ref then is_mask word else is_simple word

-- a word that is no suitable mask beside a variable that is compared with masks
abbrev pub is_bad_mask : Option Ref → List ℕ → Bool
is_bad_mask left word = is_left_with (λ ref. takes_masks ref && not (is_mask_beside ref word)) left

-- a left side that is compared with simple masks
abbrev pub takes_simple : Option Ref → Bool
takes_simple left = is_left_with (λ ref. takes_masks ref && not (is_whole_name ref)) left

-- the operand is a filter list with a word that is no simple mask, where only simple masks are compared
abbrev pub is_bad_list : List Stmt → Option Ref → OperandForm → Bool
is_bad_list before left form =
    is_listed before form &&
    (takes_simple left && is_var_with (λ ref. not (is_simple_list (list_named before ref.name))) form)

-- the text is among the literals
abbrev pub is_among : List Operand → List ℕ → Bool
is_among operands text = list_any (λ operand. is_literal_with (λ other. bytes_eq other text) operand.form) operands
