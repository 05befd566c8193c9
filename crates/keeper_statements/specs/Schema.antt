-- The forms of the five tables of the records, as their texts define them (docs/manual/records.md, "The database").
use Rattle.std.specs.Prelude.{true, false, ℕ, List, [], ◌∷◌, Option, Some, None, codes, map}
use Rattle.sqlite.specs.Collation.TheVariants.{Binary}
use Rattle.sqlite.specs.declared.types.Value.TheVariants.{Null}
use Rattle.sqlite.specs.Kind.{Kind}
use Rattle.sqlite.specs.Kind.TheVariants.{Integer, Text, Blob}
use Rattle.sqlite.specs.Table.{Table}
use Rattle.sqlite_schema.specs.declared.schema.Column.{Column}

-- a column without a null, which takes values of its type alone
abbrev pub strict_column : List ℕ → Kind → Column
strict_column name kind =
    record { name = name; kind = kind; is_strict = true; not_null = true; default = Null; collation = Binary }

-- a strict table: its name, its tree, its columns, the column that is the row's number, the places of its key, and of
-- each index with the order of its entries
abbrev pub strict_table : List ℕ → ℕ → List Column → Option ℕ → List ℕ → List (List ℕ) → Table
strict_table name tree columns key primary uniques = record {
  name = name;
  tree = tree;
  columns = columns;
  key = key;
  primary = primary;
  uniques = uniques;
  orders = map (λ _. record { digits = 0 }) uniques;
  checks = [];
  references = [];
  computed = [];
  stamps = record { places = []; terms = []; formats = [] };
  is_counted = false;
}

-- the columns of each table
abbrev pub sets_columns : List Column
sets_columns = strict_column (codes "dsn") Text ∷ strict_column (codes "rec") Blob ∷ []

abbrev pub replies_columns : List Column
replies_columns =
    strict_column (codes "job") Text ∷ strict_column (codes "number") Integer
    ∷ strict_column (codes "place") Integer ∷ strict_column (codes "request") Blob
    ∷ strict_column (codes "reply") Blob ∷ []

abbrev pub decks_columns : List Column
decks_columns = (record {
  name = codes "count";
  kind = Integer;
  is_strict = true;
  not_null = false;
  default = Null;
  collation = Binary;
}) ∷ strict_column (codes "bytes") Blob ∷ []

abbrev pub statuses_columns : List Column
statuses_columns =
    strict_column (codes "kind") Integer ∷ strict_column (codes "name") Text
    ∷ strict_column (codes "status") Integer ∷ []

abbrev pub floors_columns : List Column
floors_columns = strict_column (codes "job") Text ∷ strict_column (codes "floor") Integer ∷ []

-- the data sets, by name; a form has no tree of its own
abbrev pub sets_table : Table
sets_table = strict_table (codes "sets") 0 sets_columns None (1 ∷ []) ((1 ∷ []) ∷ [])

-- the kept replies, by job and number; no two have one place
abbrev pub replies_table : Table
replies_table = strict_table (codes "replies") 0 replies_columns None (1 ∷ 2 ∷ []) ((3 ∷ []) ∷ (1 ∷ 2 ∷ []) ∷ [])

-- the activated decks, by number, which is the number of the row
abbrev pub decks_table : Table
decks_table = strict_table (codes "decks") 0 decks_columns (Some 0) (0 ∷ []) []

-- the statuses, by kind and name
abbrev pub statuses_table : Table
statuses_table = strict_table (codes "statuses") 0 statuses_columns None (1 ∷ 2 ∷ []) ((1 ∷ 2 ∷ []) ∷ [])

-- the floors, by job
abbrev pub floors_table : Table
floors_table = strict_table (codes "floors") 0 floors_columns None (1 ∷ []) ((1 ∷ []) ∷ [])

-- the five forms
abbrev pub desk_tables : List Table
desk_tables = sets_table ∷ replies_table ∷ decks_table ∷ statuses_table ∷ floors_table ∷ []
