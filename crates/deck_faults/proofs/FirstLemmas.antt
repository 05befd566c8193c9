-- The first of a deck's faults is the one that its definition tells.
use Rattle.std.proofs.Common.{◌≡◌, ℕ, suc, Bool, true, false, ◌&&◌, not, List, [], ◌∷◌, ◌++◌, drop, map, take, refl, sym, ◌∙◌, ap}
use Rattle.std.specs.Prelude.{Option, Some, None, codes, is_some, nat_le, if◌then◌else◌}
use Rattle.std.specs.List.{AllByRecursion}
use Rattle.std.specs.Option.{option_or}
use Rattle.toml.specs.Data.{Data, Members, no_members, member, get_member, as_table}
use Rattle.dsn_mask.specs.Name.{is_name, is_volser}
use Rattle.acs_tree.specs.declared.kind.Kind.{Kind}
use Rattle.acs_tree.specs.declared.kind.Kind.TheVariants.{DataClas, StorClas, MgmtClas, StorGrp}
use Rattle.acs_tree.specs.CheckedRoutine.{CheckedRoutine}
use Rattle.sms_construct.specs.declared.fault.Fault.{Fault}
use Rattle.sms_construct.specs.declared.fault.Fault.TheVariants.{BadName, BadValue, TooMany, TwoGroups}
use Rattle.sms_construct.specs.Configuration.{Routines}
use Rattle.sms_construct.specs.Keys.{key_of}
use Rattle.sms_construct.specs.Path.{below}
use Rattle.deck_meaning.specs.declared.version.Version.{Version}
use Rattle.deck_meaning.specs.declared.version.Version.TheVariants.{Two}
use Rattle.deck_meaning.specs.Limits.{most_group_volumes}
use Rattle.deck_meaning.specs.Layout.{Row, Walk, each_fault, fixed_keys, inner, key_count, name_fault, names, row_fault}
use Rattle.deck_meaning.specs.Layout.{rows_fault, table_fault, unknown_fault, walk_inside}
use Rattle.deck_meaning.specs.Tables.{construct_walk, constructs_row, group_rows, most_constructs, routine_walk}
use Rattle.deck_meaning.specs.Tables.{tables_fault, top_rows, top_walk, version_of, version_row, volume_walk}
use Rattle.deck_meaning.specs.Outcomes.{Outcomes, assigned_fault, routines_in, source_fault}
use Rattle.deck_meaning.specs.Places.{Places, first_twice, places_of, total_fault, twice_fault, twice_fault_of}
use Rattle.deck_meaning.specs.Reading.{assigned_faults, fault_of, form_fault, sources_fault}
use Rattle.deck_meaning.proofs.ConfigurationLemmas.{first_none, no_tables, second_none}
use Rattle.deck_faults.specs.Survey.{Survey, alone, each_faults, first_alone, inner_faults, limit_fault, name_faults}
use Rattle.deck_faults.specs.Survey.{names_faults, table_faults}
use Rattle.deck_faults.specs.Tables.{construct_survey, constructs_faults, group_survey, group_walk, head_walk, read_as}
use Rattle.deck_faults.specs.Tables.{routine_faults, tables_faults, top_survey, volumes_survey}
use Rattle.deck_faults.specs.Names.{are_named, are_names, has_unknown, is_named, known_fault, names_known}
use Rattle.deck_faults.specs.Faults.{faults_of, first_in, form_faults, known_faults, sources_faults, twice_faults}

-- lists

pub first_append : (xs ys : List Fault) → first_in (xs ++ ys) ≡ option_or (first_in xs) (first_in ys)
first_append [] ys = refl
first_append (x ∷ xs) ys = refl

pub of_alone : (o : Option Fault) → first_in (alone o) ≡ o
of_alone None = refl
of_alone (Some fault) = refl

first_take : (n : ℕ) (xs : List Fault) → first_in (take (suc n) xs) ≡ first_in xs
first_take n [] = refl
first_take n (x ∷ xs) = refl

pub first_of_front : (xs : List Fault) → first_in (take 100 xs) ≡ first_in xs
first_of_front xs = first_take 99 xs

pub nothing_first : (xs : List Fault) → first_in xs ≡ None → xs ≡ []
nothing_first [] e = refl
nothing_first (x ∷ xs) e = absurd cc

-- the first of several

or_none : (o : Option Fault) → option_or o None ≡ o
or_none None = refl
or_none (Some fault) = refl

or_assoc : (a b c : Option Fault) → option_or (option_or a b) c ≡ option_or a (option_or b c)
or_assoc None b c = refl
or_assoc (Some fault) b c = refl

-- two lists, one behind the other, of which each begins so
pub joined : (xs ys : List Fault) {a b : Option Fault} → first_in xs ≡ a → first_in ys ≡ b → first_in (xs ++ ys) ≡ option_or a b
joined xs ys {a} {b} e f = first_append xs ys ∙ ap (λ z. option_or z (first_in ys)) e ∙ ap (option_or a) f

-- surveys that begin with what a walk meets

abbrev Leads : Survey → Walk → Type 0
Leads survey walk = (path : List ℕ) (keys : Members) → first_in (survey path keys) ≡ walk path keys

leads_alone : (walk : Walk) → Leads (first_alone walk) walk
leads_alone walk path keys = of_alone (walk path keys)

of_table : (survey : Survey) (walk : Walk) → Leads survey walk → (path : List ℕ) (t : Option Members) → first_in (table_faults survey path t) ≡ table_fault walk path t
of_table survey walk h path None = refl
of_table survey walk h path (Some keys) = h path keys

of_choice : (b : Bool) (faults : List Fault) (o : Option Fault) (fault : Fault) → first_in faults ≡ o → first_in (if b then faults else fault ∷ []) ≡ (if b then o else Some fault)
of_choice true faults o fault e = e
of_choice false faults o fault e = refl

of_name : (survey : Survey) (walk : Walk) (test : List ℕ → Bool) → Leads survey walk → (path name : List ℕ) (value : Data)
    → first_in (name_faults test survey path name value) ≡ name_fault test walk path name value
of_name survey walk test h path name value =
    of_choice (test name) (table_faults survey (below path name) (as_table value)) (table_fault walk (below path name) (as_table value)) (BadName (below path name)) (of_table survey walk h (below path name) (as_table value))

of_each : (survey : Survey) (walk : Walk) (test : List ℕ → Bool) → Leads survey walk → Leads (each_faults test survey) (each_fault test walk)
of_each survey walk test h path no_members = refl
of_each survey walk test h path (member name value others) =
    joined (name_faults test survey path name value) (each_faults test survey path others) (of_name survey walk test h path name value) (of_each survey walk test h path others)

of_names : (survey : Survey) (walk : Walk) (limit : ℕ) (test : List ℕ → Bool) → Leads survey walk → Leads (names_faults limit test survey) (names limit test walk)
of_names survey walk limit test h path keys =
    joined (alone (limit_fault limit path keys)) (each_faults test survey path keys) (of_alone (limit_fault limit path keys)) (of_each survey walk test h path keys)

of_value : (survey : Survey) (walk : Walk) → Leads survey walk → (path : List ℕ) (t : Option Members) → first_in (table_faults survey path t) ≡ (if is_some t then walk_inside walk path t else Some (BadValue path))
of_value survey walk h path None = refl
of_value survey walk h path (Some keys) = h path keys

of_inner : (survey : Survey) (walk : Walk) (key : List ℕ) → Leads survey walk → (path : List ℕ) (keys : Members) (o : Option Data)
    → first_in (inner_faults survey (below path key) o) ≡ row_fault path keys (inner key walk) o
of_inner survey walk key h path keys None = refl
of_inner survey walk key h path keys (Some value) = of_value survey walk h (below path key) (as_table value)

rows_append : (path : List ℕ) (keys : Members) (xs ys : List Row) → rows_fault path keys (xs ++ ys) ≡ option_or (rows_fault path keys xs) (rows_fault path keys ys)
rows_append path keys [] ys = refl
rows_append path keys (row ∷ xs) ys =
    let here = row_fault path keys row (get_member row.key keys) in
    ap (option_or here) (rows_append path keys xs ys) ∙ sym (or_assoc here (rows_fault path keys xs) (rows_fault path keys ys))

-- a storage group

of_volumes : (path : List ℕ) (keys : Members) → first_in (inner_faults volumes_survey (below path (codes "volume")) (get_member (codes "volume") keys))
    ≡ row_fault path keys (inner (codes "volume") (names most_group_volumes is_volser volume_walk)) (get_member (codes "volume") keys)
of_volumes path keys = of_inner volumes_survey (names most_group_volumes is_volser volume_walk) (codes "volume") (of_names (first_alone volume_walk) volume_walk most_group_volumes is_volser (leads_alone volume_walk)) path keys (get_member (codes "volume") keys)

leads_group : Leads group_survey (fixed_keys group_rows)
leads_group path keys =
    let unknown = unknown_fault path (map (λ row. row.key) group_rows) keys in
    let rows = rows_fault path keys (take 6 group_rows) in
    let volumes = row_fault path keys (inner (codes "volume") (names most_group_volumes is_volser volume_walk)) (get_member (codes "volume") keys) in
    joined (alone (group_walk path keys)) (inner_faults volumes_survey (below path (codes "volume")) (get_member (codes "volume") keys)) (of_alone (group_walk path keys)) (of_volumes path keys)
    ∙ or_assoc unknown rows volumes
    ∙ ap (λ z. option_or unknown (option_or rows z)) (sym (or_none volumes))
    ∙ ap (option_or unknown) (sym (rows_append path keys (take 6 group_rows) (inner (codes "volume") (names most_group_volumes is_volser volume_walk) ∷ [])))

leads_construct : (version : Version) (kind : Kind) → Leads (construct_survey version kind) (construct_walk version kind)
leads_construct version DataClas path keys = leads_alone (construct_walk version DataClas) path keys
leads_construct version StorClas path keys = leads_alone (construct_walk version StorClas) path keys
leads_construct version MgmtClas path keys = leads_alone (construct_walk version MgmtClas) path keys
leads_construct version StorGrp path keys = leads_group path keys

-- the top table

of_constructs : (version : Version) (kind : Kind) (path : List ℕ) (top : Members) → first_in (constructs_faults version kind path top) ≡ row_fault path top (constructs_row version kind) (get_member (key_of kind) top)
of_constructs version kind path top = of_inner (names_faults (most_constructs kind) is_name (construct_survey version kind)) (names (most_constructs kind) is_name (construct_walk version kind)) (key_of kind) (of_names (construct_survey version kind) (construct_walk version kind) (most_constructs kind) is_name (leads_construct version kind)) path top (get_member (key_of kind) top)

of_routines : (path : List ℕ) (top : Members) → first_in (routine_faults path top) ≡ row_fault path top (inner (codes "routine") routine_walk) (get_member (codes "routine") top)
of_routines path top = of_inner (first_alone routine_walk) routine_walk (codes "routine") (leads_alone routine_walk) path top (get_member (codes "routine") top)

nest : (u h a b c d e : Option Fault) → option_or (option_or (option_or (option_or (option_or (option_or u h) a) b) c) d) e
    ≡ option_or u (option_or h (option_or a (option_or b (option_or c (option_or d (option_or e None))))))
nest (Some x) h a b c d e = refl
nest None (Some x) a b c d e = refl
nest None None (Some x) b c d e = refl
nest None None None (Some x) c d e = refl
nest None None None None (Some x) d e = refl
nest None None None None None (Some x) e = refl
nest None None None None None None e = sym (or_none e)

leads_top : (version : Version) → Leads (top_survey version) (top_walk version)
leads_top version path top =
    let unknown = unknown_fault path (map (λ row. row.key) (top_rows version)) top in
    let head = rows_fault path top (take 3 (top_rows version)) in
    let dataclass = row_fault path top (constructs_row version DataClas) (get_member (key_of DataClas) top) in
    let stor = row_fault path top (constructs_row version StorClas) (get_member (key_of StorClas) top) in
    let mgmt = row_fault path top (constructs_row version MgmtClas) (get_member (key_of MgmtClas) top) in
    let group = row_fault path top (constructs_row version StorGrp) (get_member (key_of StorGrp) top) in
    let routines = row_fault path top (inner (codes "routine") routine_walk) (get_member (codes "routine") top) in
    let one = joined (alone (head_walk version path top)) (constructs_faults version DataClas path top) (of_alone (head_walk version path top)) (of_constructs version DataClas path top) in
    let two = joined (alone (head_walk version path top) ++ constructs_faults version DataClas path top) (constructs_faults version StorClas path top) one (of_constructs version StorClas path top) in
    let three = joined (alone (head_walk version path top) ++ constructs_faults version DataClas path top ++ constructs_faults version StorClas path top) (constructs_faults version MgmtClas path top) two (of_constructs version MgmtClas path top) in
    let four = joined (alone (head_walk version path top) ++ constructs_faults version DataClas path top ++ constructs_faults version StorClas path top ++ constructs_faults version MgmtClas path top) (constructs_faults version StorGrp path top) three (of_constructs version StorGrp path top) in
    let five = joined (alone (head_walk version path top) ++ constructs_faults version DataClas path top ++ constructs_faults version StorClas path top ++ constructs_faults version MgmtClas path top ++ constructs_faults version StorGrp path top) (routine_faults path top) four (of_routines path top) in
    five
    ∙ nest unknown head dataclass stor mgmt group routines
    ∙ ap (option_or unknown) (sym (rows_append path top (take 3 (top_rows version)) (constructs_row version DataClas ∷ constructs_row version StorClas ∷ constructs_row version MgmtClas ∷ constructs_row version StorGrp ∷ inner (codes "routine") routine_walk ∷ [])))

-- what the walk of the top table meets where the version is missing or wrong: an unknown key, or that
wrong_version : (top : Members) (version : Version) (fault : Fault) → row_fault [] top version_row (get_member (codes "version") top) ≡ Some fault
    → top_walk version [] top ≡ option_or (unknown_fault [] (map (λ row. row.key) (top_rows version)) top) (Some fault)
wrong_version top version fault e =
    let unknown = unknown_fault [] (map (λ row. row.key) (top_rows version)) top in
    ap (λ z. option_or unknown (option_or z (rows_fault [] top (drop 1 (top_rows version))))) e

as_read : (top : Members) (f : Option Fault) → row_fault [] top version_row (get_member (codes "version") top) ≡ f
    → top_walk (if is_some f then Two else version_of top) [] top ≡ top_walk (version_of top) [] top
as_read top None e = refl
as_read top (Some fault) e = wrong_version top Two fault e ∙ sym (wrong_version top (version_of top) fault e)

pub of_tables : (top : Members) → first_in (tables_faults top) ≡ tables_fault top
of_tables top = leads_top (read_as top) [] top ∙ as_read top (row_fault [] top version_row (get_member (codes "version") top)) refl

-- the whole deck

of_twice_at : (b : Bool) (fault : Fault) (faults : List Fault) (serial : List ℕ) (rest : Option (List ℕ)) → fault ≡ TwoGroups serial → first_in faults ≡ twice_fault_of rest
    → first_in (if b then fault ∷ faults else faults) ≡ twice_fault_of (if b then Some serial else rest)
of_twice_at true fault faults serial rest e f = ap Some e
of_twice_at false fault faults serial rest e f = f

of_twice : (places : Places) → first_in (twice_faults places) ≡ twice_fault_of (first_twice places)
of_twice [] = refl
of_twice (place ∷ places) = of_twice_at place.1.is_twice (TwoGroups place.0) (twice_faults places) place.0 (first_twice places) refl (of_twice places)

of_form : (top : Members) → first_in (form_faults top) ≡ form_fault top
of_form top =
    let one = joined (tables_faults top) (alone (total_fault top)) (of_tables top) (of_alone (total_fault top)) in
    joined (tables_faults top ++ alone (total_fault top)) (twice_faults (places_of top)) one (of_twice (places_of top))
    ∙ or_assoc (tables_fault top) (total_fault top) (twice_fault top)
    ∙ ap (λ z. option_or (tables_fault top) (option_or (total_fault top) z)) (sym (or_none (twice_fault top)))

nest_four : (a b c d : Option Fault) → option_or (option_or (option_or a b) c) d ≡ option_or a (option_or b (option_or c (option_or d None)))
nest_four (Some x) b c d = refl
nest_four None (Some x) c d = refl
nest_four None None (Some x) d = refl
nest_four None None None d = sym (or_none d)

of_four : (a b c d : Option Fault) → first_in (alone a ++ alone b ++ alone c ++ alone d) ≡ option_or a (option_or b (option_or c (option_or d None)))
of_four a b c d =
    let one = joined (alone a) (alone b) (of_alone a) (of_alone b) in
    let two = joined (alone a ++ alone b) (alone c) one (of_alone c) in
    joined (alone a ++ alone b ++ alone c) (alone d) two (of_alone d) ∙ nest_four a b c d

of_sources : (outcomes : Outcomes) → first_in (sources_faults outcomes) ≡ sources_fault outcomes
of_sources outcomes = of_four (source_fault DataClas outcomes.dataclas) (source_fault StorClas outcomes.storclas) (source_fault MgmtClas outcomes.mgmtclas) (source_fault StorGrp outcomes.storgrp)

-- where the tables have no fault, all names are known

named_at : (b : Bool) (path : List ℕ) (o : Option Fault) → (if b then o else Some (BadName path)) ≡ None → b ≡ true
named_at true path o e = refl
named_at false path o e = absurd cc

both_true : (a b : Bool) → a ≡ true → b ≡ true → (a && b) ≡ true
both_true a b e f = rw (e, f) refl

all_names : (walk : Walk) (path : List ℕ) (keys : Members) → each_fault is_name walk path keys ≡ None → are_names keys ≡ true
all_names walk path no_members e = refl
all_names walk path (member name value others) e =
    let here = name_fault is_name walk path name value in
    let behind = each_fault is_name walk path others in
    both_true (is_name name) (are_names others) (named_at (is_name name) (below path name) (table_fault walk (below path name) (as_table value)) (first_none here behind e))
    (all_names walk path others (second_none here behind e))

table_named : (limit : ℕ) (walk : Walk) (path : List ℕ) (t : Option Members) → (if is_some t then walk_inside (names limit is_name walk) path t else Some (BadValue path)) ≡ None → are_named t ≡ true
table_named limit walk path None e = absurd cc
table_named limit walk path (Some keys) e =
    all_names walk path keys (second_none (if nat_le (key_count keys) limit then None else Some (TooMany path)) (each_fault is_name walk path keys) e)

row_named : (version : Version) (kind : Kind) (top : Members) (o : Option Data) → row_fault [] top (constructs_row version kind) o ≡ None → is_named o ≡ true
row_named version kind top None e = refl
row_named version kind top (Some value) e = table_named (most_constructs kind) (construct_walk version kind) (below [] (key_of kind)) (as_table value) e

abbrev IsFaultless : Members → Row → Type 0
IsFaultless keys row = row_fault [] keys row (get_member row.key keys) ≡ None

rows_faultless : (keys : Members) (rows : List Row) → rows_fault [] keys rows ≡ None → AllByRecursion (IsFaultless keys) rows
rows_faultless keys [] e = tt
rows_faultless keys (row ∷ rows) e =
    let here = row_fault [] keys row (get_member row.key keys) in
    let behind = rows_fault [] keys rows in
    (first_none here behind e, rows_faultless keys rows (second_none here behind e))

top_faultless : (version : Version) (top : Members) → top_walk version [] top ≡ None → AllByRecursion (IsFaultless top) (top_rows version)
top_faultless version top e =
    let unknown = unknown_fault [] (map (λ row. row.key) (top_rows version)) top in
    rows_faultless top (top_rows version) (second_none unknown (rows_fault [] top (top_rows version)) e)

kind_faultless : (version : Version) (kind : Kind) (top : Members) → top_walk version [] top ≡ None → row_fault [] top (constructs_row version kind) (get_member (key_of kind) top) ≡ None
kind_faultless version DataClas top e = (top_faultless version top e).1.1.1.0
kind_faultless version StorClas top e = (top_faultless version top e).1.1.1.1.0
kind_faultless version MgmtClas top e = (top_faultless version top e).1.1.1.1.1.0
kind_faultless version StorGrp top e = (top_faultless version top e).1.1.1.1.1.1.0

none_unknown : (o : Option Fault) → o ≡ None → not (is_some o) ≡ true
none_unknown o e = rw e refl

all_known : (kind : Kind) (top : Members) → tables_fault top ≡ None → names_known kind top ≡ true
all_known kind top e =
    let version = version_of top in
    let unknown = unknown_fault [] (map (λ row. row.key) (top_rows version)) top in
    both_true (not (has_unknown top)) (is_named (get_member (key_of kind) top)) (none_unknown unknown (first_none unknown (rows_fault [] top (top_rows version)) e))
    (row_named version kind top (get_member (key_of kind) top) (kind_faultless version kind top e))

where_known : (b : Bool) (o : Option Fault) → b ≡ true → (if b then o else None) ≡ o
where_known b o e = rw e refl

same_known : (kind : Kind) (top : Members) (routine : Option CheckedRoutine) → tables_fault top ≡ None → known_fault kind top routine ≡ assigned_fault kind top routine
same_known kind top routine e = where_known (names_known kind top) (assigned_fault kind top routine) (all_known kind top e)

four_same : {a b c d p q r s : Option Fault} → a ≡ p → b ≡ q → c ≡ r → d ≡ s → option_or a (option_or b (option_or c (option_or d None))) ≡ option_or p (option_or q (option_or r (option_or s None)))
four_same e f g h = rw (e, f, g, h) refl

of_known : (top : Members) (routines : Routines) → tables_fault top ≡ None → first_in (known_faults top routines) ≡ assigned_faults top routines
of_known top routines e =
    of_four (known_fault DataClas top routines.dataclas) (known_fault StorClas top routines.storclas) (known_fault MgmtClas top routines.mgmtclas) (known_fault StorGrp top routines.storgrp)
    ∙ four_same (same_known DataClas top routines.dataclas e) (same_known StorClas top routines.storclas e) (same_known MgmtClas top routines.mgmtclas e) (same_known StorGrp top routines.storgrp e)

with_form : (form sources known assigned : Option Fault) → (form ≡ None → known ≡ assigned) → option_or (option_or form sources) known ≡ option_or form (option_or sources (option_or assigned None))
with_form (Some x) sources known assigned h = refl
with_form None sources known assigned h = ap (option_or sources) (h refl ∙ sym (or_none assigned))

pub of_deck : (top : Members) (outcomes : Outcomes) → first_in (faults_of top outcomes) ≡ fault_of top outcomes
of_deck top outcomes =
    let one = joined (form_faults top) (sources_faults outcomes) (of_form top) (of_sources outcomes) in
    joined (form_faults top ++ sources_faults outcomes) (known_faults top (routines_in outcomes)) one refl
    ∙ with_form (form_fault top) (sources_fault outcomes) (first_in (known_faults top (routines_in outcomes))) (assigned_faults top (routines_in outcomes)) (λ e. of_known top (routines_in outcomes) (no_tables top e))
