-- How the tables of a deck are laid out, and the first fault of a table (docs/manual/deck.md, "Order of faults").
use Rattle.std.specs.Prelude.{ℕ, ◌+◌, List, [], ◌∷◌, Bool, false, Option, None, Some, is_some, bytes_eq, nat_le, map}
use Rattle.std.specs.Prelude.{Result, Ok, Err, if◌then◌else◌}
use Rattle.std.specs.List.{list_any}
use Rattle.std.specs.Option.{option_or, option_and_then}
use Rattle.toml.specs.Data.{Data, Members, no_members, member, get_member, as_table}
use Rattle.sms_construct.specs.declared.fault.Fault.{Fault}
use Rattle.sms_construct.specs.declared.fault.Fault.TheVariants.{UnknownKey, Missing, BadValue, BadName, TooMany}
use Rattle.sms_construct.specs.Path.{below}
use Rattle.deck_meaning.specs.declared.value_form.ValueForm.{ValueForm}
use Rattle.deck_meaning.specs.Values.{has_form}

-- the first fault of a table at a path, if it has one
abbrev pub Walk : Type 0
Walk = List ℕ → Members → Option Fault

-- a key of a table with fixed keys
pub record Row : Type 0 where
  pub key : List ℕ
  -- whether its table needs it
  pub is_needed : Members → Bool
  -- whether a value is right in its table
  pub is_right : Members → Data → Bool
  -- the walk of the value, where that is a table
  pub walk : Walk

-- the table has the key
abbrev pub has : List ℕ → Members → Bool
has key keys = is_some (get_member key keys)

-- the table, or an empty one
abbrev pub or_empty : Option Members → Members
or_empty None = no_members
or_empty (Some keys) = keys

-- the table at a key, or an empty one
abbrev pub table_at : List ℕ → Members → Members
table_at key keys = or_empty (option_and_then as_table (get_member key keys))

-- how many keys a table has
abbrev pub key_count : Members → ℕ
key_count no_members = 0
key_count (member key value others) = key_count others + 1

-- the fault with which a check ends, if it ends with one
abbrev pub fault_told : Result (Unit {0}) Fault → Option Fault
fault_told (Ok done) = None
fault_told (Err fault) = Some fault

-- tables with fixed keys

-- where the value is a table, its walk
abbrev pub walk_inside : Walk → List ℕ → Option Members → Option Fault
walk_inside walk path None = None
walk_inside walk path (Some keys) = walk path keys

-- the fault of one key: it is needed and missing, its value is wrong, or the value has a fault inside
abbrev pub row_fault : List ℕ → Members → Row → Option Data → Option Fault
row_fault path keys row None = if row.is_needed keys then Some (Missing (below path row.key)) else None
row_fault path keys row (Some value) =
    if row.is_right keys value then walk_inside row.walk (below path row.key) (as_table value)
    else Some (BadValue (below path row.key))

-- the first fault of the keys, in the order of the rows
abbrev pub rows_fault : List ℕ → Members → List Row → Option Fault
rows_fault path keys [] = None
rows_fault path keys (row ∷ rows) =
    option_or (row_fault path keys row (get_member row.key keys)) (rows_fault path keys rows)

-- the first key in byte order that is none of these; the members of a table ascend
abbrev pub unknown_fault : List ℕ → List (List ℕ) → Members → Option Fault
unknown_fault path known no_members = None
unknown_fault path known (member key value others) =
    if list_any (bytes_eq key) known then unknown_fault path known others else Some (UnknownKey (below path key))

-- the walk of a table with fixed keys: an unknown key comes first
abbrev pub fixed_keys : List Row → Walk
fixed_keys rows path keys = option_or (unknown_fault path (map (λ row. row.key) rows) keys) (rows_fault path keys rows)

-- tables of names

-- the fault of what a name stands for, which is to be a table
abbrev pub table_fault : Walk → List ℕ → Option Members → Option Fault
table_fault walk path None = Some (BadValue path)
table_fault walk path (Some keys) = walk path keys

-- the fault of one name
abbrev pub name_fault : (List ℕ → Bool) → Walk → List ℕ → List ℕ → Data → Option Fault
name_fault is_name walk path name value =
    if is_name name then table_fault walk (below path name) (as_table value) else Some (BadName (below path name))

-- the first fault of the names, in byte order
abbrev pub each_fault : (List ℕ → Bool) → Walk → Walk
each_fault is_name walk path no_members = None
each_fault is_name walk path (member name value others) =
    option_or (name_fault is_name walk path name value) (each_fault is_name walk path others)

-- the walk of a table of at most so many names
abbrev pub names : ℕ → (List ℕ → Bool) → Walk → Walk
names limit is_name walk path keys =
    option_or (if nat_le (key_count keys) limit then None else Some (TooMany path)) (each_fault is_name walk path keys)

-- rows of some kinds

-- no walk: the value has no table inside
abbrev pub no_walk : Walk
no_walk path keys = None

-- a key whose value has a form
abbrev pub plain : List ℕ → ValueForm → Row
plain key form = record {
  key = key;
  is_needed = λ keys. false;
  is_right = λ keys value. has_form form value;
  walk = no_walk;
}

-- a key whose value is a table
abbrev pub inner : List ℕ → Walk → Row
inner key walk = record {
  key = key;
  is_needed = λ keys. false;
  is_right = λ keys value. is_some (as_table value);
  walk = walk;
}
