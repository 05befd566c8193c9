-- When a routine is sound (docs/manual/acs-language.md, Checks).
use Rattle.std.specs.Prelude.{◌≡◌, ◌==◌, ◌&&◌, ◌||◌, ℕ, true, not, List, [], ◌∷◌, ◌++◌, length, Option, Some, None}
use Rattle.std.specs.Prelude.{is_some, if◌then◌else◌}
use Rattle.std.specs.Str.{bytes_eq}
use Rattle.desk_common.specs.Exact.{Place, IsFirst}
use Rattle.desk_common.specs.Limits.{most_exit_code, most_groups_set, most_list_entries}
use Rattle.acs_tree.specs.declared.check_err.CheckErr.{CheckErr}
use Rattle.acs_tree.specs.declared.kind.Kind.{Kind}
use Rattle.acs_tree.specs.declared.routine.Routine.{Routine}
use Rattle.acs_tree.specs.declared.routine.Stmt.{Stmt}
use Rattle.acs_tree.specs.FilterLists.{is_mask, is_list}
use Rattle.acs_tree.specs.Nodes.{Node, Head, ListName, Entry, Target, Value, Part, Left, Order, Right, Code, nodes_of}
use Rattle.acs_tree.specs.Numbers.{is_between}
use Rattle.acs_tree.specs.References.{is_known, is_counted, is_group_list, is_misindexed, is_out_of_range, is_set_later}
use Rattle.acs_tree.specs.Suits.{token_of, is_var_with, is_word_with, is_literal_with, is_listed, is_plain_unknown}
use Rattle.acs_tree.specs.Suits.{suits, suits_set, is_order, token_if, is_bad_literal, is_too_great, range_token}
use Rattle.acs_tree.specs.Suits.{is_bad_mask, is_bad_list, is_among}
use Rattle.acs_tree.specs.Variables.{variable_of, name_of}

-- the checks: each gives the token at which a node breaks it, if it does

-- 1: the head is not the name of the kind's variable
abbrev pub wrong_head : Kind → Node → Option ℕ
wrong_head kind (Head name at) = token_if (not (bytes_eq name (name_of kind))) at
wrong_head kind _ = None

-- 2: an unknown variable: on the left, in SET, in WRITE or in SELECT (..), or on the right with an index
abbrev pub unknown_variable : Node → Option ℕ
unknown_variable (Target target) = token_if (not (is_known target)) target.at
unknown_variable (Value target before value behind) =
    token_if (is_var_with (λ ref. not (is_known ref)) value.form) (token_of value)
unknown_variable (Part part) = token_if (is_var_with (λ ref. not (is_known ref)) part.form) (token_of part)
unknown_variable (Left left) = token_if (not (is_known left)) left.at
unknown_variable (Right left right) =
    token_if (is_var_with (λ ref. not (is_known ref) && is_some ref.index) right.form) (token_of right)
unknown_variable _ = None

-- 3: SET of a variable other than the kind's
abbrev pub not_settable : Kind → Node → Option ℕ
not_settable kind (Target target) = token_if (is_known target && not (bytes_eq target.name (name_of kind))) target.at
not_settable kind _ = None

-- 4: on the right an unknown variable, without an index, that names no earlier list
abbrev pub unknown_list : List Stmt → Node → Option ℕ
unknown_list before (Right left right) =
    token_if (is_plain_unknown right.form && not (is_listed before right.form)) (token_of right)
unknown_list before _ = None

-- 5: a list's name is that of a variable or of an earlier list
abbrev pub list_name_taken : List Stmt → Node → Option ℕ
list_name_taken before (ListName name at) = token_if (is_some (variable_of name) || is_list before name) at
list_name_taken before _ = None

-- 6: an operand whose kind doesn't suit; an index on a variable that takes none, or none on one that needs it
abbrev pub kind_mismatch : List Stmt → Node → Option ℕ
kind_mismatch before (Target target) = token_if (is_misindexed target) target.at
kind_mismatch before (Value target earlier value behind) =
    token_if (not (suits_set target value.form) || is_var_with is_misindexed value.form) (token_of value)
kind_mismatch before (Part part) =
    token_if (is_word_with (λ word. true) part.form || is_var_with is_misindexed part.form) (token_of part)
kind_mismatch before (Left left) = token_if (is_misindexed left) left.at
kind_mismatch before (Right left right) =
    token_if (not (suits (is_listed before right.form) left right.form) || is_var_with is_misindexed right.form)
    (token_of right)
kind_mismatch before _ = None

-- 7: a comparison by order whose left side is no number and no size
abbrev pub order_of_texts : Node → Option ℕ
order_of_texts (Order left op at) = token_if (is_order op && not (is_counted left)) at
order_of_texts _ = None

-- 8: a literal that no SET takes, an index out of its range, a number or a size that is too great
abbrev pub value_out_of_range : Node → Option ℕ
value_out_of_range (Target target) = token_if (is_out_of_range target) target.index_at
value_out_of_range (Value target before value behind) =
    if is_literal_with (is_bad_literal before behind) value.form then Some (token_of value) else range_token value.form
value_out_of_range (Part part) = range_token part.form
value_out_of_range (Left left) = token_if (is_out_of_range left) left.index_at
value_out_of_range (Right left right) =
    if is_word_with (is_too_great left) right.form then Some (token_of right) else range_token right.form
value_out_of_range _ = None

-- 9: a word that is no suitable mask; a list entry that is neither a literal nor a mask; a list with a word that isn't
-- simple, where it must be
abbrev pub mask_misplaced : List Stmt → Node → Option ℕ
mask_misplaced before (Entry count entry) =
    token_if (is_word_with (λ word. not (is_mask word)) entry.form || is_var_with (λ ref. true) entry.form)
    (token_of entry)
mask_misplaced before (Right left right) =
    token_if (is_word_with (is_bad_mask left) right.form || is_bad_list before left right.form) (token_of right)
mask_misplaced before _ = None

-- 10: the 256th entry of an INCLUDE or an EXCLUDE
abbrev pub too_many_entries : Node → Option ℕ
too_many_entries (Entry count entry) = token_if (count == most_list_entries) (token_of entry)
too_many_entries _ = None

-- 11: in SET of the group list a 16th value or a repeated literal, in another SET a second value
abbrev pub too_many_values : Node → Option ℕ
too_many_values (Value target before value behind) =
    token_if
    (if is_group_list target then length before == most_groups_set || is_literal_with (is_among before) value.form
    else length before == 1)
    (token_of value)
too_many_values _ = None

-- 12: the code is no number from 0 to 65,535
abbrev pub bad_exit_code : Node → Option ℕ
bad_exit_code (Code code) = token_if (not (is_word_with (is_between 0 most_exit_code) code.form)) (token_of code)
bad_exit_code _ = None

-- 13: a read-write variable of a later routine is read
abbrev pub read_too_early : Kind → Node → Option ℕ
read_too_early kind (Value target before value behind) =
    token_if (is_var_with (is_set_later kind) value.form) (token_of value)
read_too_early kind (Part part) = token_if (is_var_with (is_set_later kind) part.form) (token_of part)
read_too_early kind (Left left) = token_if (is_set_later kind left) left.at
read_too_early kind (Right left right) = token_if (is_var_with (is_set_later kind) right.form) (token_of right)
read_too_early kind _ = None

-- faults

-- the fault of that number, if the check is broken at a token
abbrev pub fault : ℕ → Option ℕ → List CheckErr
fault number None = []
fault number (Some at) = record { number = number; at = at } ∷ []

-- the faults of a node; these statements of the routine stand before the one that it is in
abbrev pub faults_at : Kind → List Stmt → Node → List CheckErr
faults_at kind before node =
    fault 1 (wrong_head kind node) ++ (
    fault 2 (unknown_variable node) ++ (
    fault 3 (not_settable kind node) ++ (
    fault 4 (unknown_list before node) ++ (
    fault 5 (list_name_taken before node) ++ (
    fault 6 (kind_mismatch before node) ++ (
    fault 7 (order_of_texts node) ++ (
    fault 8 (value_out_of_range node) ++ (
    fault 9 (mask_misplaced before node) ++ (
    fault 10 (too_many_entries node) ++ (
    fault 11 (too_many_values node) ++ (
    fault 12 (bad_exit_code node) ++
    fault 13 (read_too_early kind node))))))))))))

-- what is in a list
pub data Among {I : Type 0} (item : I) : List I → Type 0 where
  here : {items : List I} → Among item (item ∷ items)
  there : {other : I} {items : List I} → Among item items → Among item (other ∷ items)

-- a node of the routine, and the statements of its body that stand before the one which the node is in
pub data Stands (routine : Routine) : List Stmt → Node → Type 0 where
  at_head : Stands routine [] (Head routine.head routine.head_at)
  in_body : {before : List Stmt} {node : Node} (statement : Stmt) (behind : List Stmt)
      → routine.body ≡ before ++ statement ∷ behind → Among node (nodes_of statement) → Stands routine before node

-- a fault of some node
pub data IsFault (routine : Routine) (kind : Kind) (err : CheckErr) : Type 0 where
  broken : (before : List Stmt) (node : Node) → Stands routine before node → Among err (faults_at kind before node) →
      IsFault routine kind err

-- at the token, by the number of the check
abbrev pub place_of : CheckErr → Place
place_of err = record { at = err.at; rank = err.number }

-- the first of all faults: at one token the one with the lowest number
abbrev pub IsFirstFault : Routine → Kind → CheckErr → Type 0
IsFirstFault routine kind err = IsFirst (IsFault routine kind) place_of err

-- no check is broken at any node
abbrev pub IsSound : Routine → Kind → Type 0
IsSound routine kind = (err : CheckErr) → IsFault routine kind err → ⊥
