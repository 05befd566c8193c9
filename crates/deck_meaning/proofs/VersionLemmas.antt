-- In a deck of version 1 no storage class has tiers.
use Rattle.std.proofs.Common.{◌≡◌, ℕ, Bool, true, false, List, [], ◌∷◌, map, refl, sym, subst}
use Rattle.std.specs.Prelude.{Option, Some, None, codes, is_some, nat_le, if◌then◌else◌}
use Rattle.std.specs.List.{AllByRecursion}
use Rattle.std.specs.Option.{option_and_then}
use Rattle.toml.specs.Data.{Data, Members, no_members, member, get_member, as_table}
use Rattle.dsn_mask.specs.Name.{is_name, name_of}
use Rattle.acs_tree.specs.declared.kind.Kind.TheVariants.{StorClas}
use Rattle.sms_construct.specs.declared.fault.Fault.TheVariants.{BadName, BadValue, TooMany}
use Rattle.sms_construct.specs.declared.storage_class.StorClass.{StorClass}
use Rattle.sms_construct.specs.Configuration.{Configuration}
use Rattle.sms_construct.specs.Path.{below}
use Rattle.deck_meaning.specs.declared.version.Version.TheVariants.{One}
use Rattle.deck_meaning.specs.Limits.{most_classes}
use Rattle.deck_meaning.specs.Layout.{Row, Walk, each_fault, key_count, name_fault, names, or_empty, row_fault, rows_fault}
use Rattle.deck_meaning.specs.Layout.{table_at, table_fault, unknown_fault, walk_inside}
use Rattle.deck_meaning.specs.Tables.{constructs_row, construct_walk, top_rows, top_walk, version_of}
use Rattle.deck_meaning.specs.Constructs.{named, storage_class_of, with_named}
use Rattle.deck_meaning.specs.Reading.{Configures}
use Rattle.deck_meaning.proofs.ConfigurationLemmas.{first_none, second_none, no_form, no_tables}

abbrev HaveNoTiers : List StorClass → Type 0
HaveNoTiers classes = AllByRecursion (λ class. class.multi_tier ≡ false) classes

-- a storage class

abbrev class_walk : Walk
class_walk = construct_walk One StorClas

class_has_none : (path name : List ℕ) (keys : Members) → class_walk path keys ≡ None
    → (storage_class_of name keys).multi_tier ≡ false
class_has_none path name no_members e = refl
class_has_none path name (member l d ms) e = absurd cc

with_none : (path name : List ℕ) (b : Bool) (t : Option Members) (classes : List StorClass)
    → (if b then table_fault class_walk path t else Some (BadName path)) ≡ None → HaveNoTiers classes
    → HaveNoTiers (with_named storage_class_of (if b then Some name else None) t classes)
with_none path name false t classes e a = absurd cc
with_none path name true None classes e a = absurd cc
with_none path name true (Some keys) classes e a = (class_has_none path name keys e, a)

-- the storage classes

all_have_none : (path : List ℕ) (ms : Members) → each_fault is_name class_walk path ms ≡ None
    → HaveNoTiers (named name_of storage_class_of ms)
all_have_none path no_members e = tt
all_have_none path (member l d ms) e =
    let here = name_fault is_name class_walk path l d in
    let behind = each_fault is_name class_walk path ms in
    with_none (below path l) l (is_name l) (as_table d) (named name_of storage_class_of ms) (first_none here behind e)
    (all_have_none path ms (second_none here behind e))

inside_have_none : (path : List ℕ) (t : Option Members)
    → (if is_some t then walk_inside (names most_classes is_name class_walk) path t else Some (BadValue path)) ≡ None
    → HaveNoTiers (named name_of storage_class_of (or_empty t))
inside_have_none path None e = tt
inside_have_none path (Some ms) e =
    let few = if nat_le (key_count ms) most_classes then None else Some (TooMany path) in
    all_have_none path ms (second_none few (each_fault is_name class_walk path ms) e)

row_has_none : (keys : Members) (o : Option Data) → row_fault [] keys (constructs_row One StorClas) o ≡ None
    → HaveNoTiers (named name_of storage_class_of (or_empty (option_and_then as_table o)))
row_has_none keys None e = tt
row_has_none keys (Some value) e = inside_have_none (below [] (codes "storclass")) (as_table value) e

-- the deck

abbrev IsFaultless : Members → Row → Type 0
IsFaultless keys row = row_fault [] keys row (get_member row.key keys) ≡ None

rows_faultless : (keys : Members) (rows : List Row) → rows_fault [] keys rows ≡ None
    → AllByRecursion (IsFaultless keys) rows
rows_faultless keys [] e = tt
rows_faultless keys (row ∷ rows) e =
    let here = row_fault [] keys row (get_member row.key keys) in
    let behind = rows_fault [] keys rows in
    (first_none here behind e, rows_faultless keys rows (second_none here behind e))

top_has_none : (top : Members) → top_walk One [] top ≡ None
    → HaveNoTiers (named name_of storage_class_of (table_at (codes "storclass") top))
top_has_none top e =
    let unknown = unknown_fault [] (map (λ row. row.key) (top_rows One)) top in
    let rows = rows_faultless top (top_rows One) (second_none unknown (rows_fault [] top (top_rows One)) e) in
    row_has_none top (get_member (codes "storclass") top) rows.1.1.1.1.0

pub no_tiers : {bytes : List ℕ} {config : Configuration} (c : Configures bytes config) → version_of c.top ≡ One
    → HaveNoTiers config.storage_classes
no_tiers {bytes} c e =
    let no_fault = no_tables c.top (no_form c.top c.outcomes c.faultless) in
    subst (λ config. HaveNoTiers config.storage_classes) (sym c.config_is)
    (top_has_none c.top (subst (λ version. top_walk version [] c.top ≡ None) e no_fault))
