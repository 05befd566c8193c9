-- What the keeper over a database tells.
use Rattle.std.specs.Prelude.{◌&&◌, ℕ, Bool, true, not, nat_lt, List, [], ◌∷◌, Option, Some, None, IsTrue, is_some}
use Rattle.std.specs.Prelude.{refl, if◌then◌else◌}
use Rattle.std.specs.Coded.{Coded, code_by, coded×, coded_list, coded_option, coded_ℕ}
use Rattle.std.specs.List.{list_all}
use Rattle.std.specs.Ordering.{is_lt}
use Rattle.sqlite.specs.Does.{lacks_sequence}
use Rattle.sqlite.specs.Effect.{Database}
use Rattle.sqlite.specs.Held.{Held, held_code, state}
use Rattle.sqlite.specs.Order.{Row}
use Rattle.sqlite.specs.Schema.{Schema}
use Rattle.sqlite.specs.State.{State}
use Rattle.sqlite.specs.Table.{Table}
use Rattle.sqlite_catalog.specs.Change.{is_used}
use Rattle.sqlite_schema.specs.contracts.schema.Table as the_table
use Rattle.sqlite_trees.specs.Tree.{rowid}
use Rattle.sqlite_trees.specs.View.{is_int}
use Rattle.sqlite_trees.specs.declared.store.Store.{Ghosts}
use Rattle.sqlite_value.specs.Order.{value_cmp}
use Rattle.sms_keeper.specs.declared.rows.Rows.{Rows}
use Rattle.sms_keeper.specs.declared.table.Table.{Table as Damaged}
use Rattle.keeper_statements.specs.Found.{are_bound, has_referrers, keys_of, keys_on, placed, table_in, table_of}
use Rattle.keeper_statements.specs.Schema.{desk_tables}
use Rattle.keeper_statements.specs.Tables.{rows_named, tables_in}
use Rattle.sms_sqlite.specs.Damage.{damage_in, ordered}
use Rattle.sms_sqlite.specs.Same.{is_same}
use Rattle.sms_sqlite.specs.Values.{rows_in}

-- the rows' numbers rise
abbrev pub is_keyed : List Row → Bool
is_keyed [] = true
is_keyed (r ∷ rows) = is_int (rowid r) && (list_all (λ x. is_lt (value_cmp (rowid r) (rowid x))) rows && is_keyed rows)

-- a table of this name is of this form, and has the keys of the form alone; or nothing has the name
abbrev pub is_formed : Table → Schema → Option Table → Bool
is_formed form schema None = not (is_used schema form.name)
is_formed form schema (Some t) =
    is_same the_table.the_row.coded t (placed form t.tree)
    && (nat_lt t.tree 65536 && is_same (coded_list (coded× (coded_list coded_ℕ) coded_ℕ))
    (keys_on schema (placed form t.tree)) (keys_of form))

-- a table has a tree of its own
abbrev pub is_apart : Schema → Table → Bool
is_apart schema t = is_same (coded_option the_table.the_row.coded) (table_in schema t.tree) (Some t)

-- each of the five tables is there in its form or can be made, and no foreign key refers to one of them
abbrev pub can_serve : Schema → Bool
can_serve schema =
    list_all (λ form. is_formed form schema (table_of schema form.name)) desk_tables
    && (not (has_referrers schema) && (list_all (is_apart schema)
    schema.tables && (are_bound schema && not (lacks_sequence schema))))

-- so it is, and the numbers of their rows rise
abbrev pub is_whole : Database → Bool
is_whole db = can_serve db.schema && list_all (λ form. is_keyed (rows_named db form.name)) desk_tables

-- the tables of a database: what their rows stand for; a table that isn't made has none
abbrev pub tables_of : Database → Option Rows
tables_of db = if is_whole db then rows_in db else None

-- the first row of the five tables that stands for nothing
abbrev pub damage_of : Database → Option (Damaged × ℕ)
damage_of db = if is_whole db then damage_in (ordered (tables_in db)) else None

-- what contracts see of a keeper over a database: the connection, the connection as it was handed in, and the count of
-- faults
pub record KeeperView (S : Type 0) : Type 0 where
  pub connection : Held S
  pub base : Held S
  pub faults : ℕ

-- its code
abbrev pub keeper_code : {S : Type 0} → Coded S → Coded (KeeperView S)
keeper_code {S} store =
    code_by (Held S × (Held S × ℕ)) (coded× (held_code store) (coded× (held_code store) coded_ℕ))
    (λ k. (k.connection, (k.base, k.faults))) (λ p. record { connection = p.0; base = p.1.0; faults = p.1.1 })
    (λ _. refl)

-- what the database holds can be told: so far the disk returned what was written, and the connection is open
abbrev pub is_shown : State → Bool
is_shown s = s.is_open && s.is_clean

-- its tables can be told: each row of the five stands for something
abbrev pub can_tell : Database → Bool
can_tell db = is_some (tables_of db)

-- what is told of a database that is seen so, where its tables could be told as it was handed in
abbrev pub told_of : Database → State → Option Rows
told_of base s = if is_shown s && can_tell base then tables_of s.now else None

-- the tables that the keeper tells
abbrev pub told_by : {S : Type 0} → Ghosts S → KeeperView S → Option Rows
told_by g k = told_of (state g k.base).now (state g k.connection)

-- the first damage of a database that is seen so
abbrev pub damage_seen : State → Option (Damaged × ℕ)
damage_seen s = if is_shown s then damage_of s.now else None

-- the first damaged row that the keeper tells
abbrev pub damage_by : {S : Type 0} → Ghosts S → KeeperView S → Option (Damaged × ℕ)
damage_by g k = damage_seen (state g k.connection)

-- the keeper keeps its tables readable
abbrev pub IsReadable : Database → State → Type 0
IsReadable base s = IsTrue (is_shown s) → IsTrue (can_tell base) → IsTrue (can_tell s.now)
