-- The filter lists of a body, compiled.
use Rattle.std.specs.Prelude.{ℕ, Bool, true, false, List, [], ◌∷◌, map, if◌then◌else◌}
use Rattle.std.specs.Str.{bytes_eq}
use Rattle.dsn_mask.specs.Filter.{FilterLists}
use Rattle.acs_tree.specs.declared.routine.Stmt.{Stmt}
use Rattle.acs_tree.specs.Comparands.{Comparand, Filter, Nothing, filter_of}
use Rattle.acs_tree.specs.FilterLists.{FilterList, lists_in}
use Rattle.acs_code.specs.declared.compiled_list.CompiledList.{CompiledList}

-- a filter list, as it is compared with the whole data set name, and as with another text
abbrev pub compiled : FilterList → CompiledList
compiled list = record { name = list.name; dotted = filter_of true list; plain = filter_of false list }

-- the filter lists of a body, compiled
abbrev pub compiled_in : List Stmt → List CompiledList
compiled_in body = map compiled (lists_in body)

-- the filters of compiled lists: of each first the one for the whole data set name, and then the other
abbrev pub filters_in : List CompiledList → List FilterLists
filters_in [] = []
filters_in (list ∷ lists) = list.dotted ∷ list.plain ∷ filters_in lists

-- the filters of the code of a body
abbrev pub filters_of : List Stmt → List FilterLists
filters_of body = filters_in (compiled_in body)

-- the compiled list of that name, as it is compared with the whole data set name or with another text
abbrev pub compiled_comparand : Bool → List CompiledList → List ℕ → Comparand
compiled_comparand whole [] name = Nothing
compiled_comparand whole (list ∷ lists) name =
    if bytes_eq list.name name then Filter (if whole then list.dotted else list.plain)
    else compiled_comparand whole lists name
