-- Filter lists among statements, as the checks go through them.
use Rattle.std.specs.Prelude.{ℕ, Bool, false, List, Option, Some, None}
use Rattle.std.specs.Str.{bytes_eq}
use Rattle.acs_tree.specs.declared.routine.Stmt.{Stmt}
use Rattle.acs_tree.specs.FilterLists.{FilterList, is_simple_list, list_of}

-- there is a filter list and it has that name
abbrev pub has_name : List ℕ → Option FilterList → Bool
has_name name None = false
has_name name (Some list) = bytes_eq list.name name

-- the statement is a filter list of that name
abbrev pub is_list_named : List ℕ → Stmt → Bool
is_list_named name statement = has_name name (list_of statement.form)

-- the statement is no filter list, or one whose words are simple masks
abbrev pub is_simple_statement : Stmt → Bool
is_simple_statement statement = is_simple_list (list_of statement.form)
