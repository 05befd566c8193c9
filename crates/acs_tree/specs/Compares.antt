-- When a comparison holds (docs/manual/acs-language.md, Meaning).
use Rattle.std.specs.Prelude.{◌==◌, ◌&&◌, ℕ, Bool, false, not, List, [], ◌∷◌, Option, Some, None, nat_le, nat_lt}
use Rattle.std.specs.List.{list_all, list_any}
use Rattle.std.specs.Str.{bytes_eq}
use Rattle.dsn_mask.specs.Filter.{passes_filter}
use Rattle.dsn_mask.specs.MaskTest.{is_empty, mask_fits, simple_fits}
use Rattle.acs_tree.specs.declared.input.Input.{Input}
use Rattle.acs_tree.specs.declared.routine.Compare.{Compare}
use Rattle.acs_tree.specs.declared.routine.Compare.TheVariants.{Eq, Ne, Gt, Lt, Ge, Le, Ng, Nl}
use Rattle.acs_tree.specs.declared.values.Values.{Values}
use Rattle.acs_tree.specs.Comparands as comparand
use Rattle.acs_tree.specs.Comparands.{Comparand}
use Rattle.acs_tree.specs.Value.{Value, Text, Number, Size, AnyOf, AllOf, Groups}
use Rattle.acs_tree.specs.Variables.{variable_value}

-- texts

-- the value is that text
abbrev pub is_that_text : List ℕ → Value → Bool
is_that_text text (Text other) = bytes_eq text other
is_that_text text _ = false

-- EQ of a text
abbrev pub text_equals : Input → Values → Comparand → List ℕ → Bool
text_equals input values (comparand.Literal other) text = bytes_eq text other
text_equals input values (comparand.Dots mask) text = mask_fits mask text
text_equals input values (comparand.Plain simple) text = simple_fits simple text
text_equals input values (comparand.Filter lists) text = passes_filter text lists.include lists.exclude
text_equals input values (comparand.Var name index) text = is_that_text text (variable_value name index input values)
text_equals input values (comparand.Number number) text = false
text_equals input values comparand.Nothing text = false

-- the groups, or the null text where there are none
abbrev pub groups_or_null : List (List ℕ) → List (List ℕ)
groups_or_null [] = [] ∷ []
groups_or_null (group ∷ groups) = group ∷ groups

-- NE is the negation of EQ, and no other comparison of texts holds
abbrev pub texts_compare : Compare → Bool → Bool
texts_compare Eq are_equal = are_equal
texts_compare Ne are_equal = not are_equal
texts_compare _ are_equal = false

-- numbers

-- the number, or the size in KB
abbrev pub counted : Value → Option ℕ
counted (Number number) = Some number
counted (Size kilobytes) = Some kilobytes
counted _ = None

-- the number on the right
abbrev pub number_beside : Input → Values → Comparand → Option ℕ
number_beside input values (comparand.Number number) = Some number
number_beside input values (comparand.Var name index) = counted (variable_value name index input values)
number_beside input values _ = None

-- NG is LE, and NL is GE
abbrev pub numbers_compare : Compare → ℕ → ℕ → Bool
numbers_compare Eq left right = left == right
numbers_compare Ne left right = not (left == right)
numbers_compare Gt left right = nat_lt right left
numbers_compare Lt left right = nat_lt left right
numbers_compare Ge left right = nat_le right left
numbers_compare Le left right = nat_le left right
numbers_compare Ng left right = nat_le left right
numbers_compare Nl left right = nat_le right left

-- a number beside what is no number: only NE holds
abbrev pub number_compares : Compare → ℕ → Option ℕ → Bool
number_compares op left None = texts_compare op false
number_compares op left (Some right) = numbers_compare op left right

-- a value and what it is compared with
abbrev pub compares : Input → Values → Compare → Value → Comparand → Bool
compares input values op (Text text) right = texts_compare op (text_equals input values right text)
compares input values op (Number number) right = number_compares op number (number_beside input values right)
compares input values op (Size kilobytes) right = number_compares op kilobytes (number_beside input values right)
compares input values op (AnyOf volumes) right = texts_compare op (list_any (text_equals input values right) volumes)
compares input values op (AllOf volumes) right =
    texts_compare op (not (is_empty volumes) && list_all (text_equals input values right) volumes)
compares input values op (Groups groups) right =
    texts_compare op (list_any (text_equals input values right) (groups_or_null groups))
