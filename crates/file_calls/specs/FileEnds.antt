-- What a run over a database is, from the connection as it was opened to the keeper that is handed back.
use Rattle.std.specs.Prelude.{◌≡◌, ◌↔◌, ℕ, List, None, Some, true}
use Rattle.sqlite.specs.Held.{Held}
use Rattle.sqlite_trees.specs.declared.store.Store.{Ghosts}
use Rattle.sms_base.specs.Observed.{Observed}
use Rattle.sms_keeper.specs.Loading.{SameDamage}
use Rattle.sms_keeper.specs.declared.keeper.Keeper.{Ghosts as Tellers}
use Rattle.sms_open.specs.Reopening.{NamesRefusal}
use Rattle.sms_open.specs.declared.open_err.OpenErr.{OpenErr}
use Rattle.sms_sqlite.specs.Told.{KeeperView, damage_by, told_by}
use Rattle.desk_calls.specs.declared.status.RunStatus.TheVariants.{BadWords}
use Rattle.db_calls.specs.DbEnds.{DbEnds, is_told, leaves_sink_of}
use Rattle.db_calls.specs.DbWords.{database_in}
use Rattle.db_calls.specs.declared.status.DbStatus.{DbStatus}
use Rattle.db_calls.specs.declared.status.DbStatus.TheVariants.{Ran, StoreFault, Store}

-- what keepers over such databases tell, and their counts
abbrev pub teller : {S : Type 0} → Ghosts S → Tellers (KeeperView S)
teller g = record { told = told_by g; count = λ k. k.faults }

-- the keeper over a database that was just opened
abbrev pub keeper_over : {S : Type 0} → Held S → KeeperView S
keeper_over found = record { connection = found; base = found; faults = 0 }

-- a run with these words began over the connection and ended with the keeper; the source and the sink before and after
-- it, and what was observed of them
pub record WasRunOver {S A B : Type 0} (g : Ghosts S) (words : List (List ℕ)) (src src' : A) (out out' : B)
    (old new : Observed) (found : Held S) (after : KeeperView S) (status : DbStatus) : Type 0 where
  -- with words that name a file each status has its cause
  pub ends : (name : List ℕ) → database_in words ≡ Some name →
      DbEnds (teller g) (damage_by g) old new (keeper_over found) after status
  -- other words are told, and nothing is touched
  pub words_are : (status ≡ Ran BadWords) ↔ (database_in words ≡ None)
  pub unasked : status ≡ Ran BadWords → src' ≡ src
  pub unrun : status ≡ Ran BadWords → after ≡ keeper_over found
  -- where the keeper failed or is refused the source is unread, and a refusal is that of what the keeper tells
  pub unread : status ≡ StoreFault → src' ≡ src
  pub unopened : (err : OpenErr) → status ≡ Store err → src' ≡ src
  pub refused : (err : OpenErr) → status ≡ Store err →
      (is_told err ≡ true) × NamesRefusal (told_by g after) (damage_by g after) err
  pub damage : (err : OpenErr) → status ≡ Store err → SameDamage (damage_by g (keeper_over found)) (damage_by g after)
  pub unwritten : leaves_sink_of status ≡ true → out' ≡ out
