-- What a statement does inside a transaction.
use Rattle.std.specs.Prelude.{◌≡◌, ◌<◌, ℕ, Bool, true, false, List, [], Result, Ok, OnOk, IsTrue}
use Rattle.std.specs.List.{AllByRecursion}
use Rattle.sqlite.specs.Does.{lacks_sequence}
use Rattle.sqlite.specs.Effect.{Database, IsDatabase}
use Rattle.sqlite.specs.State.{State, Executes, HasCleanDisk}
use Rattle.sqlite.specs.declared.error.Error.{Error}
use Rattle.sqlite.specs.Table.{Table}
use Rattle.sqlite_catalog.specs.Change.{KeepsRows, created, next_tree}
use Rattle.keeper_statements.specs.Found.{is_desk_name}
use Rattle.keeper_statements.specs.Schema.{sets_table, replies_table, decks_table, statuses_table, floors_table}
use Rattle.keeper_statements.specs.Tables.{Tables, IsReady, tables_in}
use Rattle.keeper_statements.specs.declared.present.Present.{Present}

-- the schema stayed, and the rows of each table that is none of the five; and the trees still list the schema and obey
-- it
pub record LeavesRest (old new : Database) : Type 0 where
  pub schema : new.schema ≡ old.schema
  pub others : AllByRecursion (λ t. is_desk_name t.name ≡ false → new.trees t.tree ≡ old.trees t.tree) old.schema.tables
  pub sound : IsDatabase old → IsDatabase new

-- the statement made this change of the five tables and no other
pub record Makes (change : Tables → Tables) (old new : Database) : Type 0 where
  pub ready : IsReady new
  pub rest : LeavesRest old new
  pub tables : tables_in new ≡ change (tables_in old)

-- while the disk is clean, a statement that is not refused makes this change
abbrev pub MayMake : {X : Type 0} → (Tables → Tables) → State → State → Result X Error → Type 0
MayMake change old new result =
    HasCleanDisk new → IsTrue old.in_transaction → IsReady old.now → OnOk result (Makes change old.now new.now)

-- the transaction goes on where the statement is not refused, and what was committed stays
pub record StaysInside {X : Type 0} (old new : State) (result : Result X Error) : Type 0 where
  pub inside : OnOk result (IsTrue new.in_transaction)
  pub was_open : IsTrue new.is_open → IsTrue old.is_open
  pub committed : IsTrue new.is_open → new.committed ≡ old.committed

-- the same while the disk is clean
abbrev pub MayStay : {X : Type 0} → State → State → Result X Error → Type 0
MayStay old new result = HasCleanDisk new → IsTrue old.in_transaction → StaysInside old new result

-- a table was made behind those that were there, without rows; these stay with their rows, and the trees list the
-- schema
pub record HasMadeTable (table : Table) (old new : Database) : Type 0 where
  pub schema : new.schema ≡ created old.schema table
  pub low : next_tree old.schema < 65536
  pub empty : new.trees (next_tree old.schema) ≡ []
  pub others : KeepsRows old.schema.tables old.trees new.trees
  pub sound : IsDatabase new

-- the same where no table of SQLite's own is made besides, as the first table with AUTOINCREMENT asks
abbrev pub MakesTable : Table → Database → Database → Type 0
MakesTable table old new = lacks_sequence old.schema ≡ false → HasMadeTable table old new

-- a table is provided: where it is there nothing changed, and where it isn't it was made
pub record Provides (is_there : Bool) (table : Table) (old new : Database) : Type 0 where
  pub stays : is_there ≡ true → new ≡ old
  pub made : is_there ≡ false → MakesTable table old new

-- a text that makes a table was run, unless the table is there
pub record RunsUnless (is_there : Bool) (text : List ℕ) (old new : State) : Type 0 where
  pub stays : is_there ≡ true → new.now ≡ old.now
  pub ran : is_there ≡ false → (count : ℕ) × Executes text [] old new (Ok count)

-- the tables of data sets, kept replies and decks are provided, one behind the other
pub record HasMadeFirst (there : Present) (old new : Database) : Type 0 where
  pub one : Database
  pub two : Database
  pub sets : Provides there.sets sets_table old one
  pub replies : Provides there.replies replies_table one two
  pub decks : Provides there.decks decks_table two new

-- the tables of statuses and floors are provided, one behind the other
pub record HasMadeLast (there : Present) (old new : Database) : Type 0 where
  pub one : Database
  pub statuses : Provides there.statuses statuses_table old one
  pub floors : Provides there.floors floors_table one new

-- each of the five tables that isn't there was made, without rows, behind those that were there, which stay with their
-- rows
pub record HasMade (there : Present) (old new : Database) : Type 0 where
  pub mid : Database
  pub first : HasMadeFirst there old mid
  pub last : HasMadeLast there mid new
