-- What the close of a desk comes to.
use Rattle.std.specs.Prelude.{ℕ, ◌≡◌, ◌<◌, List, ◌++◌, length}
use Rattle.std.specs.List.{AllByRecursion}
use Rattle.sms_construct.specs.declared.entry.Entry.{Entry}
use Rattle.desk_law.specs.State.{Opening}
use Rattle.desk_plan.specs.Sharing.{those}

-- a number that one of so many workers has
abbrev pub Signs : ℕ → (ℕ → ℕ) → ℕ → Type 0
Signs count number n = (i : ℕ) × (i < count) × (n ≡ number i)

-- from the list of a new desk a list went on by signed entries: opening and mark stand, and each worker's entries are
-- its own
pub record HasClosed (count : ℕ) (number : ℕ → ℕ) (owned : ℕ → List Entry) (o : Opening) (mark : ℕ) (o' : Opening)
    (mark' : ℕ) (js js' : List Entry) (ns : List ℕ) : Type 0 where
  pub opening : o' ≡ o
  pub mark_is : mark' ≡ mark
  pub added : List Entry
  pub grown : js' ≡ js ++ added
  pub counted : length added ≡ length ns
  pub signs : AllByRecursion (Signs count number) ns
  pub own : (i : ℕ) → i < count → those (number i) ns added ≡ owned i
