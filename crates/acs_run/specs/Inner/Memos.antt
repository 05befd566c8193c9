-- What a run remembers of the filter lists.
use Rattle.std.specs.Prelude.{◌≡◌, ℕ, Bool, List, Option, Some, IfSome}
use Rattle.std.specs.List.{slice_get}
use Rattle.dsn_mask.specs.Filter.{FilterLists}
use Rattle.acs_tree.specs.Variables.{first_qualifier, last_qualifier}
use Rattle.acs_run.specs.declared.memo.Memo.{Memo}
use Rattle.acs_run.specs.Inner.Seen.{passes_if_any}

-- each answer is the one for the filter list at its place
abbrev pub Remembers : List FilterLists → List ℕ → List (Option Bool) → Type 0
Remembers filters dsn answers =
    (place : ℕ) (answer : Bool) → slice_get answers place ≡ Some (Some answer) →
    answer ≡ passes_if_any dsn (slice_get filters place)

-- what a run knows of the name of its data set is so
pub record Knows (filters : List FilterLists) (dsn : List ℕ) (memo : Memo) : Type 0 where
  pub whole : IfSome memo.whole (λ text. text ≡ dsn)
  pub first : IfSome memo.first (λ text. text ≡ first_qualifier dsn)
  pub last : IfSome memo.last (λ text. text ≡ last_qualifier dsn)
  pub names : Remembers filters dsn memo.names.answers
  pub firsts : Remembers filters (first_qualifier dsn) memo.firsts.answers
