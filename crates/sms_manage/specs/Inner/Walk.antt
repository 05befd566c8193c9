-- How the catalog is gone through on a day.
use Rattle.std.specs.Prelude.{ℕ, ◌≡◌, ◌+◌, List, [], ◌∷◌, ◌++◌, length, Option, MatchOption}
use Rattle.sms_construct.specs.Configuration.{Configuration}
use Rattle.sms_construct.specs.declared.data_set.DataSet.{DataSet}
use Rattle.sms_construct.specs.declared.entry.Answer.{Answer}
use Rattle.sms_construct.specs.declared.entry.Entry.{Entry}
use Rattle.sms_construct.specs.declared.request.Op.{Op}
use Rattle.sms_keeper.specs.declared.rows.Rows.{Rows}
use Rattle.desk_law.specs.State.{Opening}
use Rattle.desk_state.specs.Following.{IsFirstBehind, IsLastName}
use Rattle.sms_core.specs.Core.{Enters}
use Rattle.sms_manage.specs.declared.act.Act.{Act}
use Rattle.sms_manage.specs.declared.wanted.Due.{Due}
use Rattle.sms_manage.specs.Due.{due_of}
use Rattle.sms_manage.specs.Managed.{manager}

-- the name is that of the next data set, and this is due of it
pub record IsDueNext (config : Configuration) (day : ℕ) (sets : List DataSet) (last : Option (List ℕ))
    (found : List ℕ × Due) : Type 0 where
  pub set : DataSet
  pub first : IsFirstBehind last sets set
  pub name : found.0 ≡ set.dsn
  pub due : found.1 ≡ due_of config day set

-- what is due next, or nothing only where no name is left
abbrev pub IsNextDue : Configuration → ℕ → List DataSet → Option (List ℕ) → Option (List ℕ × Due) → Type 0
IsNextDue config day sets last next = MatchOption next (IsLastName last sets) (IsDueNext config day sets last)

-- a request was answered and stored behind the others, with the next number behind the first
pub record Asks (first : ℕ) (o : Opening) (old new : List Entry) (dsn : List ℕ) (op : Op) (acts acts' : List Act) : Type 0 where
  pub answer : Answer
  pub behind : acts' ≡ acts ++ record { number = first + length acts; dsn = dsn; answer = answer } ∷ []
  pub told : Option Rows
  pub told_then : Option Rows
  pub count : ℕ
  pub count_then : ℕ
  pub enters : Enters o old new told told_then count count_then
      (record { job = manager; number = first + length acts; op = op }) answer
