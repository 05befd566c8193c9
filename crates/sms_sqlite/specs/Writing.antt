-- What a change does to the rows of a database.
use Rattle.std.specs.Prelude.{◌≡◌, ◌++◌, false, ℕ, Some, Result, OnOk, OnErr, IsTrue, filter}
use Rattle.sqlite.specs.Does.{lacks_sequence}
use Rattle.sqlite.specs.Effect.{Database, IsDatabase}
use Rattle.sqlite.specs.Schema.{Schema}
use Rattle.sqlite.specs.State.{State, HasCleanDisk}
use Rattle.sqlite.specs.declared.error.Error.{Error}
use Rattle.sqlite_trees.specs.Tree.{Trees}
use Rattle.sms_keeper.specs.Tables.{AreSame, sets_with, floors_with, replies_left, statuses_with, decks_added, keep_row}
use Rattle.sms_keeper.specs.Tables.{row_of, is_deck, is_status_of}
use Rattle.sms_keeper.specs.declared.change.Change.{Change}
use Rattle.sms_keeper.specs.declared.rows.Rows.{Rows}
use Rattle.sms_construct.specs.declared.target.Target.{Target}
use Rattle.keeper_statements.specs.Steps.{LeavesRest}
use Rattle.keeper_statements.specs.Tables.{IsReady}
use Rattle.sms_sqlite.specs.Reading.{IsMadeReady}
use Rattle.sms_sqlite.specs.Told.{tables_of}
use Rattle.sms_sqlite.specs.Values.{rows_in}

-- the tables are made, and these are their rows
pub record Holds (db : Database) (rows : Rows) : Type 0 where
  pub ready : IsReady db
  pub read : rows_in db ≡ Some rows

-- the same rows; decks and statuses may stand in another order of their keys
pub record AreAlike (a b : Rows) : Type 0 where
  pub sets : a.sets ≡ b.sets
  pub replies : a.replies ≡ b.replies
  pub decks : (count : ℕ) → filter (is_deck count) a.decks ≡ filter (is_deck count) b.decks
  pub statuses : (target : Target) → filter (is_status_of target) a.statuses ≡ filter (is_status_of target) b.statuses
  pub floors : a.floors ≡ b.floors

-- the database holds rows like these, and beside them what the old one held
pub record HoldsLike (old db : Database) (rows : Rows) : Type 0 where
  pub rest : LeavesRest old db
  pub found : Rows
  pub holds : Holds db found
  pub alike : AreAlike found rows

-- a keeper over the database tells these rows, in any order of the keys; and its trees list its schema and obey it,
-- where those of the old one did
pub record HasRows (old db : Database) (rows : Rows) : Type 0 where
  pub found : Rows
  pub read : tables_of db ≡ Some found
  pub same : AreSame found rows
  pub sound : IsDatabase old → IsDatabase db

-- the database with other trees under its schema
abbrev pub with_trees : Database → Trees → Database
with_trees db trees = record { schema = db.schema; trees = trees }

-- the trees are those of the database with these rows, and beside them what the old one held
pub record IsChangeLeft (old : Database) (trees : Trees) (rows : Rows) : Type 0 where
  pub rest : LeavesRest old (with_trees old trees)
  pub has : HasRows old (with_trees old trees) rows

-- the trees are those of a database in which each of the five tables that wasn't there was made, and what was told
-- stands; they list its schema and obey it, where the old ones did and a table that counts its rows for good had
-- SQLite's own table beside it
pub record IsMadeLeft (old : Database) (trees : Trees) : Type 0 where
  pub schema : Schema
  pub made : IsMadeReady old (record { schema = schema; trees = trees })
  pub sound : lacks_sequence old.schema ≡ false → IsDatabase old →
      IsDatabase (record { schema = schema; trees = trees })
  pub rows : (rows : Rows) → tables_of old ≡ Some rows → HasRows old (record { schema = schema; trees = trees }) rows

-- while the disk is clean, what isn't refused makes this change of the rows, inside its transaction
abbrev pub MayLead : {X : Type 0} → (Rows → Rows) → State → State → Result X Error → Type 0
MayLead change old new result = HasCleanDisk new → IsTrue old.in_transaction → (rows : Rows) → Holds old.now rows →
    OnOk result (HoldsLike old.now new.now (change rows))

-- the tables with the effect of a change, and without the row of its reply
abbrev pub with_effect : Change → Rows → Rows
with_effect change rows = record {
  sets = sets_with change.effect rows.sets;
  replies = replies_left change.effect rows.replies;
  decks = rows.decks ++ decks_added change.request.op change.effect;
  statuses = statuses_with change.effect rows.statuses;
  floors = floors_with change.effect rows.floors;
}

-- the tables with the row of a change's reply, where it is kept
abbrev pub with_row : Change → Rows → Rows
with_row change rows = record rows { replies = keep_row rows.floors (row_of change) rows.replies }

-- the connection is open, what it sees is committed, and a stop leaves that alone
pub record IsSettled (new : State) : Type 0 where
  pub is_open : IsTrue new.is_open
  pub committed : new.committed ≡ new.now
  pub alone : (db : Trees) → new.may_leave db → db ≡ new.now.trees

-- while the disk is clean, what isn't refused is settled
abbrev pub MaySettle : {X E : Type 0} → State → Result X E → Type 0
MaySettle new result = HasCleanDisk new → OnOk result (IsSettled new)

-- what the connection sees and what is committed are as before
pub record IsAsBefore (old new : State) : Type 0 where
  pub now : new.now ≡ old.now
  pub committed : new.committed ≡ old.committed

-- while the disk is clean and the connection open, what is refused leaves all as before
abbrev pub MayUndo : {X E : Type 0} → State → State → Result X E → Type 0
MayUndo old new result = HasCleanDisk new → IsTrue new.is_open → OnErr result (IsAsBefore old new)

-- the database holds rows like these, beside them what the old one held, and all is committed
pub record IsCommitted (old : Database) (new : State) (rows : Rows) : Type 0 where
  pub holds : HoldsLike old new.now rows
  pub committed : new.committed ≡ new.now
  pub is_open : IsTrue new.is_open

-- while the disk is clean, what isn't refused commits this change of the rows, whoever wrote them
abbrev pub MayCommit : {X E : Type 0} → (Rows → Rows) → State → State → Result X E → Type 0
MayCommit change old new result = HasCleanDisk new → (rows : Rows) → tables_of old.now ≡ Some rows →
    OnOk result (IsCommitted old.now new (change rows))
