-- Which data set comes next in the order of the names' bytes.
use Rattle.std.specs.Prelude.{ℕ, ◌≡◌, Bool, true, List, Option, None, Some, MatchOption}
use Rattle.std.specs.Cmp.Lexicographic.{slice_cmp}
use Rattle.std.specs.Ordering.{is_lt, nat_cmp}
use Rattle.sms_construct.specs.declared.data_set.DataSet.{DataSet}
use Rattle.desk_law.specs.State.{set_named}

-- the name stands behind the other; each name stands behind none
abbrev pub is_behind : Option (List ℕ) → List ℕ → Bool
is_behind None dsn = true
is_behind (Some from) dsn = is_lt (slice_cmp nat_cmp from dsn)

-- no name behind it has a data set
abbrev pub IsLastName : Option (List ℕ) → List DataSet → Type 0
IsLastName from sets = (dsn : List ℕ) → is_behind from dsn ≡ true → set_named dsn sets ≡ None

-- the data set stands behind the name, and no name between the two has one
pub record IsFirstBehind (from : Option (List ℕ)) (sets : List DataSet) (set : DataSet) : Type 0 where
  pub behind : is_behind from set.dsn ≡ true
  pub stands : set_named set.dsn sets ≡ Some set
  pub first : (dsn : List ℕ) → is_behind from dsn ≡ true → is_behind (Some dsn) set.dsn ≡ true →
      set_named dsn sets ≡ None

-- the first data set behind the name, or none only where no name behind it has one
abbrev pub IsNextSet : Option (List ℕ) → List DataSet → Option DataSet → Type 0
IsNextSet from sets next = MatchOption next (IsLastName from sets) (IsFirstBehind from sets)
