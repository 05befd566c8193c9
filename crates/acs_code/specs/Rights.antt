-- What the right side of a probe stands for.
use Rattle.std.specs.Prelude.{◌≡◌, ◌+◌, ◌*◌, ◌<◌, ℕ, Bool, List, Option, MatchOption, length, if◌then◌else◌}
use Rattle.std.specs.List.{slice_get}
use Rattle.dsn_mask.specs.Filter.{FilterLists}
use Rattle.acs_tree.specs.declared.routine.Stmt.{Stmt}
use Rattle.acs_tree.specs.Comparands.{Comparand, Nothing, list_comparand}
use Rattle.acs_tree.specs.FilterLists.{list_named}
use Rattle.acs_code.specs.declared.compiled_list.CompiledList.{CompiledList}
use Rattle.acs_code.specs.declared.right.Right.{Right}
use Rattle.acs_code.specs.Machine.{filter_comparand, right_comparand}
use Rattle.acs_code.specs.Stands.{IsThere}
use Rattle.acs_code.specs.Compiled.{compiled_comparand, filters_in, filters_of}

-- it is that comparand, and its filter list is there
pub record IsRight (filters : List FilterLists) (comparand : Comparand) (right : Right) : Type 0 where
  pub same : right_comparand filters right ≡ comparand
  pub there : IsThere (length filters) right

-- there is one, or the comparand is nothing
abbrev pub IsRightIfAny : List FilterLists → Comparand → Option Right → Type 0
IsRightIfAny filters comparand result = MatchOption result (comparand ≡ Nothing) (IsRight filters comparand)

-- where a filter list stands among the filters, by its place among the lists: as it is compared with the whole data set
-- name, or with another text
abbrev pub filter_place : Bool → ℕ → ℕ
filter_place whole place = if whole then 2 * place else 2 * place + 1

-- the filters of the compiled list at a place are those of that name
pub record IsPlaceAmong (lists : List CompiledList) (name : List ℕ) (place : ℕ) : Type 0 where
  pub within : place < length lists
  pub same : (whole : Bool) →
      filter_comparand (slice_get (filters_in lists) (filter_place whole place)) ≡ compiled_comparand whole lists name
  pub there : (whole : Bool) → filter_place whole place < length (filters_in lists)

-- no compiled list has that name
abbrev pub IsNoneAmong : List CompiledList → List ℕ → Type 0
IsNoneAmong lists name = (whole : Bool) → compiled_comparand whole lists name ≡ Nothing

-- the place of the filter of that name, as it is compared with the whole data set name or with another text
pub record IsFilterOf (body : List Stmt) (whole : Bool) (name : List ℕ) (place : ℕ) : Type 0 where
  pub same : filter_comparand (slice_get (filters_of body) place) ≡ list_comparand whole (list_named body name)
  pub there : place < length (filters_of body)
