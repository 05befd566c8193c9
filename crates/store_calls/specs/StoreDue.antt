-- What is due on a day of the data sets of a store, and how it is told (docs/manual/smsd.md, "Space management").
use Rattle.std.specs.Prelude.{ℕ, List, [], ◌∷◌, ◌++◌, codes, flat_map, Option, None, Some}
use Rattle.sms_construct.specs.Configuration.{Configuration}
use Rattle.sms_construct.specs.declared.data_set.DataSet.{DataSet}
use Rattle.sms_keeper.specs.declared.keeper.Keeper.{Ghosts}
use Rattle.sms_keeper.specs.declared.table.Table.{Table}
use Rattle.desk_law.specs.State.{Opening, start_of}
use Rattle.sms_script.specs.NameText.{spaced}
use Rattle.sms_manage.specs.Due.{due_of}
use Rattle.sms_manage.specs.declared.wanted.Due.{Due}
use Rattle.sms_manage.specs.declared.wanted.Due.TheVariants.{Nothing, Delete, Release}
use Rattle.desk_calls.specs.declared.status.RunStatus.{RunStatus}
use Rattle.store_calls.specs.Opened.{IsUnopened, WasOpened}
use Rattle.store_calls.specs.StoreLists.{Seen}
use Rattle.store_calls.specs.Written.{TextEnds}
use Rattle.store_calls.specs.declared.status.StoreStatus.{StoreStatus}
use Rattle.store_calls.specs.declared.status.StoreStatus.TheVariants.{Ran, Unopened}

-- DUE, the name of a data set, and what is due of it
abbrev pub named_line : List ℕ → List ℕ → List ℕ
named_line dsn word = spaced (codes "DUE" ∷ dsn ∷ word ∷ []) ++ 10 ∷ []

-- no line where nothing is due
abbrev pub wanted_line : List ℕ → Due → List ℕ
wanted_line dsn Nothing = []
wanted_line dsn Delete = named_line dsn (codes "DELETE")
wanted_line dsn Release = named_line dsn (codes "RELEASE")

-- the line of a data set
abbrev pub due_line : Configuration → ℕ → DataSet → List ℕ
due_line config day set = wanted_line set.dsn (due_of config day set)

-- a line for each data set of which something is due under the active configuration; none where nothing is active
abbrev pub due_lines : ℕ → Option Configuration → List DataSet → List ℕ
due_lines day None sets = []
due_lines day (Some config) sets = flat_map (due_line config day) sets

-- the lines of a desk with this opening, in the order of its data sets
abbrev pub due_text : ℕ → Opening → List ℕ
due_text day o = due_lines day (start_of o).active (start_of o).sets

module _ {P : Type 0} (told_by : Ghosts P) (damage : P → Option (Table × ℕ)) where
  -- what is due of what was found of the store was told, and the store stayed as it was
  pub record WasStoreDue (day : ℕ) (old new : Seen) (before after : P) (status : RunStatus) : Type 0 where
    pub opening : Opening
    pub opened : WasOpened told_by damage before after opening
    pub ends : TextEnds (due_text day opening) old new status

  -- what each status says
  abbrev pub StoreDueEnds : ℕ → Seen → Seen → P → P → StoreStatus → Type 0
  StoreDueEnds day old new before after (Ran status) = WasStoreDue day old new before after status
  StoreDueEnds day old new before after (Unopened err) = IsUnopened told_by damage before after err
