-- What the database holds in the five tables.
use Rattle.std.specs.Prelude.{ℕ, List, [], Option, Some, None, codes, map, drop, IsTrue}
use Rattle.std.specs.List.{AllByRecursion}
use Rattle.sqlite.specs.Effect.{Database}
use Rattle.sqlite.specs.Order.{Row}
use Rattle.sqlite.specs.Table.{Table}
use Rattle.sqlite_trees.specs.Tree.{Trees, IsTable, rowid}
use Rattle.sqlite_trees.specs.View.{is_int}
use Rattle.keeper_statements.specs.Found.{CanRead, CanServe, IsThere, table_of}
use Rattle.keeper_statements.specs.Schema.{desk_tables, sets_table, replies_table, decks_table, statuses_table}
use Rattle.keeper_statements.specs.Schema.{floors_table}

-- the rows' numbers rise
abbrev pub IsKeyed : List Row → Type 0
IsKeyed rows = IsTable rows × AllByRecursion (λ r. IsTrue (is_int (rowid r))) rows

-- the rows of each table; those of decks with their numbers, the others without
pub record Tables : Type 0 where
  pub sets : List Row
  pub replies : List Row
  pub decks : List Row
  pub statuses : List Row
  pub floors : List Row

-- rows without their numbers
abbrev pub bodies : List Row → List Row
bodies = map (drop 1)

-- the rows of a table that may be there
abbrev pub rows_at : Trees → Option Table → List Row
rows_at trees None = []
rows_at trees (Some table) = trees table.tree

-- the rows of the first table of this name, and none where there is no such table
abbrev pub rows_named : Database → List ℕ → List Row
rows_named db name = rows_at db.trees (table_of db.schema name)

-- the tables of this database
abbrev pub tables_in : Database → Tables
tables_in db = record {
  sets = bodies (rows_named db (codes "sets"));
  replies = bodies (rows_named db (codes "replies"));
  decks = rows_named db (codes "decks");
  statuses = bodies (rows_named db (codes "statuses"));
  floors = bodies (rows_named db (codes "floors"));
}

-- a table of this form is there, and the numbers of its rows rise
pub record HasTable (form : Table) (db : Database) : Type 0 where
  pub there : IsThere form db.schema
  pub keyed : IsKeyed (db.trees there.tree)

-- the five tables are there, whatever other tables are
pub record IsReady (db : Database) : Type 0 where
  pub sets : HasTable sets_table db
  pub replies : HasTable replies_table db
  pub decks : HasTable decks_table db
  pub statuses : HasTable statuses_table db
  pub floors : HasTable floors_table db
  pub serves : CanServe db.schema

-- each of the five tables is there, or can be made, and the numbers of its rows rise
pub record Serves (db : Database) : Type 0 where
  pub schema : CanServe db.schema
  pub keyed : AllByRecursion (λ form. IsKeyed (rows_named db form.name)) desk_tables

-- the five can be read, and the numbers of their rows rise
pub record IsLegible (db : Database) : Type 0 where
  pub schema : CanRead db.schema
  pub keyed : AllByRecursion (λ form. IsKeyed (rows_named db form.name)) desk_tables
