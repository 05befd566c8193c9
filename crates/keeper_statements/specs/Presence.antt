-- Which of the five tables a database has, by their names.
use Rattle.std.specs.Prelude.{◌&&◌, ℕ, Bool, true, false, not, List, codes}
use Rattle.std.specs.List.{list_any}
use Rattle.sqlite.specs.Schema.{Schema}
use Rattle.sqlite.specs.Table.{Table}
use Rattle.sqlite_catalog.specs.Change.{is_used}
use Rattle.sqlite_schema.specs.Names.{same_name}
use Rattle.keeper_statements.specs.Schema.{desk_tables}
use Rattle.keeper_statements.specs.declared.present.Present.{Present}

-- there is a table of this name, in capital or small letters
abbrev pub has_table : List Table → List ℕ → Bool
has_table tables name = list_any (λ t. same_name t.name name) tables

-- something other than a table has this name: a view, an index, or a table that is set aside for a trigger or an index
-- on it
abbrev pub is_hidden : Schema → List ℕ → Bool
is_hidden schema name = is_used schema name && not (has_table schema.tables name)

-- so it is of one of the five
abbrev pub has_hidden : Schema → Bool
has_hidden schema = list_any (λ form. is_hidden schema form.name) desk_tables

-- which of the five are among these tables
abbrev pub present_in : List Table → Present
present_in tables = record {
  sets = has_table tables (codes "sets");
  replies = has_table tables (codes "replies");
  decks = has_table tables (codes "decks");
  statuses = has_table tables (codes "statuses");
  floors = has_table tables (codes "floors");
}

-- the five are there
abbrev pub all_there : Present
all_there = record { sets = true; replies = true; decks = true; statuses = true; floors = true }

-- none of them is there
abbrev pub none_there : Present
none_there = record { sets = false; replies = false; decks = false; statuses = false; floors = false }
