-- Tables of a schema, found by their names.
use Rattle.std.specs.Prelude.{◌≡◌, ◌⊎◌, ◌<◌, ◌==◌, ℕ, Bool, true, false, List, Option, Some, find, filter, map}
use Rattle.std.specs.Prelude.{nat_lt}
use Rattle.std.specs.List.{AllByRecursion, list_any, list_all}
use Rattle.sqlite.specs.Does.{lacks_sequence}
use Rattle.sqlite.specs.Schema.{Schema}
use Rattle.sqlite.specs.Table.{Table}
use Rattle.sqlite_catalog.specs.Change.{is_used, next_tree}
use Rattle.sqlite_schema.specs.Names.{same_name}
use Rattle.sqlite_schema.specs.Rules.{guards}
use Rattle.keeper_statements.specs.Schema.{desk_tables}

-- a table of this form, in a tree
abbrev pub placed : Table → ℕ → Table
placed form tree = record form { tree = tree }

-- the first table of this name, in capital or small letters
abbrev pub table_of : Schema → List ℕ → Option Table
table_of schema name = find (λ t. same_name t.name name) schema.tables

-- the first table that has this tree
abbrev pub table_in : Schema → ℕ → Option Table
table_in schema tree = find (λ t. t.tree == tree) schema.tables

-- the keys that no two rows of a table share, each with its order
abbrev pub keys_on : Schema → Table → List (List ℕ × ℕ)
keys_on schema table = map (λ i. (i.columns, i.order.digits)) (filter (λ i. guards i table) schema.indexes)

-- those that a form has
abbrev pub keys_of : Table → List (List ℕ × ℕ)
keys_of form = map (λ key. (key, 0)) form.uniques

-- a table of this form is there under its name
pub record HasForm (form : Table) (schema : Schema) : Type 0 where
  pub tree : ℕ
  pub named : table_of schema form.name ≡ Some (placed form tree)
  pub low : tree < 65536

-- so it is, or neither a table nor anything else has its name
abbrev pub MayHaveForm : Table → Schema → Type 0
MayHaveForm form schema = (is_used schema form.name ≡ false) ⊎ HasForm form schema

-- each of the five tables is there in its form or missing: enough to read them
pub record CanRead (schema : Schema) : Type 0 where
  pub tables : AllByRecursion (λ form. MayHaveForm form schema) desk_tables
  -- each table has a tree of its own
  pub apart : AllByRecursion (λ t. table_in schema t.tree ≡ Some t) schema.tables

-- a table of this form is there under its name, and its rows have the keys of the form alone
pub record IsThere (form : Table) (schema : Schema) : Type 0 where
  pub tree : ℕ
  pub named : table_of schema form.name ≡ Some (placed form tree)
  pub low : tree < 65536
  pub keys : keys_on schema (placed form tree) ≡ keys_of form

-- a table of this form is there, or neither a table nor anything else has its name
abbrev pub MayBeThere : Table → Schema → Type 0
MayBeThere form schema = (is_used schema form.name ≡ false) ⊎ IsThere form schema

-- one of the five has this name
abbrev pub is_desk_name : List ℕ → Bool
is_desk_name name = list_any (λ form. same_name form.name name) desk_tables

-- a foreign key refers to one of the five
abbrev pub has_referrers : Schema → Bool
has_referrers schema = list_any (λ t. list_any (λ r. is_desk_name r.parent) t.references) schema.tables

-- each index belongs to a tree below the next
abbrev pub are_bound : Schema → Bool
are_bound schema = list_all (λ i. nat_lt i.table (next_tree schema)) schema.indexes

-- each of the five tables is there in its form or can be made, and no foreign key refers to one of them
pub record CanServe (schema : Schema) : Type 0 where
  pub tables : AllByRecursion (λ form. MayBeThere form schema) desk_tables
  pub unreferred : has_referrers schema ≡ false
  -- each table has a tree of its own
  pub apart : AllByRecursion (λ t. table_in schema t.tree ≡ Some t) schema.tables
  pub bound : are_bound schema ≡ true
  -- a table that counts its rows for good has SQLite's own table beside it
  pub whole : lacks_sequence schema ≡ false
