-- What holds of each configuration that a deck gives.
use Rattle.std.proofs.Common.{◌≡◌, ◌≤◌, ◌<◌, ◌+◌, take, drop, ◌||◌, ℕ, Bool, true, false, List, [], ◌∷◌, ◌++◌, map}
use Rattle.std.proofs.Common.{bytes_eq, length, refl, sym, subst, arith, nat_lt}
use Rattle.std.specs.Prelude.{Option, Some, None, ◌&&◌, ◌==◌, nat_le, IfSome, unwrap_or, position, pos, codes}
use Rattle.std.specs.Prelude.{if◌then◌else◌}
use Rattle.std.specs.Option.{option_and_then, option_or}
use Rattle.std.specs.BTreeMap.{insert_entry}
use Rattle.std.specs.List.{AllByRecursion, list_any}
use Rattle.std.specs.Ordering.{nat_cmp, match_ordering}
use Rattle.std.specs.declared.cmp.Ordering.{Ordering}
use Rattle.std.specs.declared.cmp.Ordering.TheVariants.{Less, Equal, Greater}
use Rattle.std.specs.Cmp.Lexicographic.{slice_cmp}
use Rattle.std.proofs.lemmas.Bool.Decides.{nat_tests}
use Rattle.std.proofs.lemmas.List.{length-append, length-map}
use Rattle.std.proofs.lemmas.Slice.Eq.{bytes_eq-Decides}
use Rattle.toml.specs.Data.{Data, integer, Members, no_members, member, get_member, as_table, as_str}
use Rattle.toml.specs.Data.{members_are_sorted}
use Rattle.desk_common.specs.Limits.{most_tracks}
use Rattle.dsn_mask.specs.Name.{name_of, volser_of}
use Rattle.acs_tree.specs.declared.kind.Kind.{Kind}
use Rattle.acs_tree.specs.declared.kind.Kind.TheVariants.{DataClas, StorClas, MgmtClas, StorGrp}
use Rattle.sms_construct.specs.declared.unit.Unit.{Unit as UnitOf}
use Rattle.sms_construct.specs.declared.unit.Unit.TheVariants.{Trk, Cyl}
use Rattle.sms_construct.specs.declared.fault.Fault.{Fault}
use Rattle.sms_construct.specs.declared.fault.Fault.TheVariants.{TooMany}
use Rattle.sms_construct.specs.declared.status.Status.{Status}
use Rattle.sms_construct.specs.declared.status.Status.TheVariants.{Enable}
use Rattle.sms_construct.specs.declared.volume.VolumeDef.{VolumeDef}
use Rattle.sms_construct.specs.declared.storage_group.StorGroup.{StorGroup}
use Rattle.sms_construct.specs.Quantities.{IsSpace, IsVolumeCount, most_breakpoint}
use Rattle.sms_construct.specs.Configuration.{Configuration, IsConfiguration, IsDataClass, Routines, most_volumes}
use Rattle.sms_construct.specs.Configuration.{names_of, are_ascending, routine_of, is_connected}
use Rattle.deck_meaning.specs.declared.place.Place.{Place}
use Rattle.deck_meaning.specs.Limits.{most_cylinders}
use Rattle.deck_meaning.specs.Tables.{tables_fault}
use Rattle.sms_construct.specs.Numbers.{small_number_of}
use Rattle.sms_construct.specs.Parts.{behind_front, in_parentheses}
use Rattle.sms_construct.specs.SpaceText.{space_with, list_of_quantities, quantities_in, quantities_of, space_behind}
use Rattle.sms_construct.specs.SpaceText.{space_inside, space_text}
use Rattle.deck_meaning.specs.Values.{Words, devices, volume_statuses, meaning_in, word_in, integer_in, are_whole}
use Rattle.deck_meaning.specs.Values.{cylinders_in, space_in}
use Rattle.deck_meaning.specs.Layout.{key_count, or_empty, table_at}
use Rattle.deck_meaning.specs.Constructs.{read_at, with_named, named, data_class_of, storage_class_of, management_class_of}
use Rattle.deck_meaning.specs.Constructs.{group_of, size_of, tracks_of, volume_of, group_volumes, all_volumes}
use Rattle.deck_meaning.specs.Places.{Places, has_place, put_volume, put_volumes, groups_in, places_of, volumes_in}
use Rattle.deck_meaning.specs.Places.{volume_total, total_fault, twice_fault}
use Rattle.deck_meaning.specs.Outcomes.{Outcome, Absent, Long, Sound, Faulty, IsOutcomeOf, Outcomes, AreOutcomes}
use Rattle.deck_meaning.specs.Outcomes.{outcomes_from, routines_in, sound_in, source_of}
use Rattle.deck_meaning.specs.Reading.{Configures, MeansTable, configuration_of, fault_of, first_of, form_fault}
use Rattle.deck_meaning.specs.Reading.{sources_fault, assigned_faults}
use Rattle.deck_meaning.proofs.OrderLemmas.{ascending, names_ascend, inner_sorted, lined_volumes, volsers_ascend}
use Rattle.deck_meaning.proofs.ReadingLemmas.{back_from_outcomes}
use Rattle.deck_meaning.proofs.SortedLemmas.{document_ascends}

-- options that hold something

then_if : {A B : Type 0} (f : A → Option B) (P : B → Type 0) → ((x : A) → IfSome (f x) P) → (o : Option A) → IfSome (option_and_then f o) P
then_if f P h None = tt
then_if f P h (Some x) = h x

or_if : {A : Type 0} (P : A → Type 0) (o p : Option A) → IfSome o P → IfSome p P → IfSome (option_or o p) P
or_if P None p a b = b
or_if P (Some x) p a b = a

test_if : {A : Type 0} (P : A → Type 0) (b : Bool) (x : A) → (b ≡ true → P x) → IfSome (if b then Some x else None) P
test_if P true x h = h refl
test_if P false x h = tt

either_if : {A : Type 0} (P : A → Type 0) (b : Bool) (x : A) (o : Option A) → P x → IfSome o P
    → IfSome (if b then Some x else o) P
either_if P true x o a c = a
either_if P false x o a c = c

still_if : {A : Type 0} (P : A → Type 0) (test : A → Bool) (o : Option A) → IfSome o P
    → IfSome (option_and_then (λ x. if test x then Some x else None) o) P
still_if P test None a = tt
still_if P test (Some x) a = either_if P (test x) x None a tt

or_default : {A : Type 0} (P : A → Type 0) (o : Option A) (default : A) → P default → IfSome o P → P (unwrap_or o default)
or_default P None default a b = a
or_default P (Some x) default a b = b

-- integers and spaces

abbrev IsWithin : ℕ → ℕ → ℕ → Type 0
IsWithin least most number = (least ≤ number) × (number ≤ most)

within : (least most number : ℕ) → (nat_le least number && nat_le number most) ≡ true → IsWithin least most number
within least most number e = (grind (arith, nat_tests), grind (arith, nat_tests))

integer_within : (least most : ℕ) (value : Data) → IfSome (integer_in least most value) (IsWithin least most)
integer_within least most (integer (pos number)) = test_if (IsWithin least most) (nat_le least number && nat_le number most) number (within least most number)
integer_within least most _ = tt

cylinders_within : (value : Data) → IfSome (cylinders_in value) (IsWithin 1 most_cylinders)
cylinders_within value =
    still_if (IsWithin 1 most_cylinders) are_whole (integer_in 1 most_cylinders value) (integer_within 1 most_cylinders value)

is_space : (unit : UnitOf) (primary secondary : ℕ) → (nat_le 1 primary && (nat_le primary 16777215 && nat_le secondary 16777215)) ≡ true → IsSpace (record { unit = unit; primary = primary; secondary = secondary })
is_space unit primary secondary e = record { some = grind (arith, nat_tests); primary = grind (arith, nat_tests); secondary = grind (arith, nat_tests) }

with_is_space : (unit : UnitOf) (primary secondary : Option ℕ) → IfSome (space_with unit primary secondary) IsSpace
with_is_space unit (Some primary) (Some secondary) =
    test_if IsSpace (nat_le 1 primary && (nat_le primary 16777215 && nat_le secondary 16777215)) (record { unit = unit; primary = primary; secondary = secondary }) (is_space unit primary secondary)
with_is_space unit (Some primary) None = tt
with_is_space unit None secondary = tt

list_is_space : (unit : UnitOf) (bytes : List ℕ) (comma : Option ℕ) → IfSome (list_of_quantities unit bytes comma) IsSpace
list_is_space unit bytes None = with_is_space unit (small_number_of bytes) (Some 0)
list_is_space unit bytes (Some comma) = with_is_space unit (small_number_of (take comma bytes)) (small_number_of (drop (comma + 1) bytes))

quantities_are_space : (unit : UnitOf) (bytes : List ℕ) (listed : Option (List ℕ)) → IfSome (quantities_in unit bytes listed) IsSpace
quantities_are_space unit bytes None = with_is_space unit (small_number_of bytes) (Some 0)
quantities_are_space unit bytes (Some listed) = list_is_space unit listed (position (λ byte. byte == 44) listed)

unit_is_space : (unit : UnitOf) (bytes : List ℕ) → IfSome (quantities_of unit bytes) IsSpace
unit_is_space unit bytes = quantities_are_space unit bytes (in_parentheses bytes)

behind_is_space : (tracks cylinders : Option (List ℕ)) → IfSome (space_behind tracks cylinders) IsSpace
behind_is_space (Some tracks) cylinders = unit_is_space Trk tracks
behind_is_space None (Some cylinders) = unit_is_space Cyl cylinders
behind_is_space None None = tt

inside_is_space : (inner : List ℕ) → IfSome (space_inside inner) IsSpace
inside_is_space inner = behind_is_space (behind_front (codes "TRK,") inner) (behind_front (codes "CYL,") inner)

value_is_space : (value : Data) → IfSome (space_in value) IsSpace
value_is_space value = then_if space_text IsSpace (λ text. then_if space_inside IsSpace inside_is_space (in_parentheses text)) (as_str value)

-- tracks

device_test : (a b : Bool) → IfSome (if a then Some 50085 else if b then Some 150255 else None) (λ tracks. 0 < tracks)
device_test true b = omega arith
device_test false true = omega arith
device_test false false = tt

device_has_tracks : (value : Data) → IfSome (word_in devices value) (λ tracks. 0 < tracks)
device_has_tracks value = then_if (meaning_in devices) (λ tracks. 0 < tracks) (λ text. device_test (bytes_eq text (codes "3390-3")) (bytes_eq text (codes "3390-9"))) (as_str value)

one_or_more : (tracks : Option ℕ) (most : ℕ) → IfSome tracks (IsWithin 1 most) → 0 < unwrap_or tracks 1
one_or_more None most a = omega arith
one_or_more (Some tracks) most a = omega (arith, a.0)

size_is_some : (device cylinders tracks : Option ℕ) → IfSome device (λ n. 0 < n) → IfSome cylinders (IsWithin 1 most_cylinders) → IfSome tracks (IsWithin 1 most_tracks) → 0 < size_of device cylinders tracks
size_is_some (Some device) cylinders tracks a b c = a
size_is_some None (Some cylinders) tracks a b c = omega (arith, b.0)
size_is_some None None tracks a b c = one_or_more tracks most_tracks c

has_tracks : (keys : Members) → 0 < tracks_of keys
has_tracks keys =
    size_is_some (read_at (word_in devices) (codes "device") keys) (read_at cylinders_in (codes "cylinders") keys)
    (read_at (integer_in 1 most_tracks) (codes "tracks") keys)
    (then_if (word_in devices) (λ n. 0 < n) device_has_tracks (get_member (codes "device") keys))
    (then_if cylinders_in (IsWithin 1 most_cylinders) cylinders_within (get_member (codes "cylinders") keys))
    (then_if (integer_in 1 most_tracks) (IsWithin 1 most_tracks) (integer_within 1 most_tracks) (get_member (codes "tracks") keys))

-- statuses

abbrev IsConnected : Status → Type 0
IsConnected status = is_connected status ≡ true

words_connect : (words : Words Status) → AllByRecursion (λ word. IsConnected word.1) words → (text : List ℕ)
    → IfSome (meaning_in words text) IsConnected
words_connect [] a text = tt
words_connect (word ∷ words) a text =
    either_if IsConnected (bytes_eq text word.0) word.1 (meaning_in words text) a.0 (words_connect words a.1 text)

value_connects : (value : Data) → IfSome (word_in volume_statuses value) IsConnected
value_connects value =
    then_if (meaning_in volume_statuses) IsConnected (words_connect volume_statuses (refl, (refl, (refl, (refl, (refl, tt)))))) (as_str value)

volume_connects : (group volser : List ℕ) (keys : Members) → IsConnected (volume_of group volser keys).status
volume_connects group volser keys =
    or_default IsConnected (read_at (word_in volume_statuses) (codes "status") keys) Enable refl
    (then_if (word_in volume_statuses) IsConnected value_connects (get_member (codes "status") keys))

-- breakpoints

abbrev IsBreakpoint : ℕ → Type 0
IsBreakpoint cylinders = cylinders ≤ most_breakpoint

value_is_breakpoint : (value : Data) → IfSome (integer_in 0 most_breakpoint value) IsBreakpoint
value_is_breakpoint (integer (pos number)) =
    test_if IsBreakpoint (nat_le 0 number && nat_le number most_breakpoint) number (λ e. (within 0 most_breakpoint number e).1)
value_is_breakpoint _ = tt

breakpoint_within : (name : List ℕ) (keys : Members) → (group_of name keys).breakpoint ≤ most_breakpoint
breakpoint_within name keys =
    or_default IsBreakpoint (read_at (integer_in 0 most_breakpoint) (codes "breakpoint") keys) 10 (omega arith)
    (then_if (integer_in 0 most_breakpoint) IsBreakpoint value_is_breakpoint (get_member (codes "breakpoint") keys))

-- what holds of all that is built

all_append : {A : Type 0} (P : A → Type 0) (xs ys : List A) → AllByRecursion P xs → AllByRecursion P ys → AllByRecursion P (xs ++ ys)
all_append P [] ys a b = b
all_append P (x ∷ xs) ys a b = (a.0, all_append P xs ys a.1 b)

all_weaker : {A : Type 0} (P Q : A → Type 0) (xs : List A) → ((x : A) → P x → Q x) → AllByRecursion P xs → AllByRecursion Q xs
all_weaker P Q [] h a = tt
all_weaker P Q (x ∷ xs) h a = (h x a.0, all_weaker P Q xs h a.1)

all_with : {X : Type 0} (P : X → Type 0) (build : List ℕ → Members → X) → ((name : List ℕ) (keys : Members) → P (build name keys)) → (o : Option (List ℕ)) (t : Option Members) (items : List X)
    → AllByRecursion P items → AllByRecursion P (with_named build o t items)
all_with P build h None t items a = a
all_with P build h (Some name) None items a = a
all_with P build h (Some name) (Some keys) items a = (h name keys, a)

all_named : {X : Type 0} (P : X → Type 0) (reading : List ℕ → Option (List ℕ)) (build : List ℕ → Members → X) → ((name : List ℕ) (keys : Members) → P (build name keys)) → (ms : Members)
    → AllByRecursion P (named reading build ms)
all_named P reading build h no_members = tt
all_named P reading build h (member l d ms) = all_with P build h (reading l) (as_table d) (named reading build ms) (all_named P reading build h ms)

all_placed : (P : VolumeDef → Type 0) (o : Ordering) (k l : List ℕ) (p q : Place) (es rest : Places) → P p.volume → P q.volume → AllByRecursion P (volumes_in es) → AllByRecursion P (volumes_in rest)
    → AllByRecursion P (volumes_in (match_ordering o ((k, p) ∷ (l, q) ∷ es) ((l, p) ∷ es) ((l, q) ∷ rest)))
all_placed P Less k l p q es rest a b c d = (a, (b, c))
all_placed P Equal k l p q es rest a b c d = (a, c)
all_placed P Greater k l p q es rest a b c d = (b, d)

all_insert : (P : VolumeDef → Type 0) (k : List ℕ) (p : Place) (es : Places) → P p.volume → AllByRecursion P (volumes_in es) → AllByRecursion P (volumes_in (insert_entry (slice_cmp nat_cmp) es k p))
all_insert P k p [] a b = (a, tt)
all_insert P k p (e ∷ es) a b = all_placed P (slice_cmp nat_cmp k e.0) k e.0 p e.1 es (insert_entry (slice_cmp nat_cmp) es k p) a b.0 b.1 (all_insert P k p es a b.1)

all_put : (P : VolumeDef → Type 0) (places : Places) (volumes : List VolumeDef) → AllByRecursion P volumes → AllByRecursion P (volumes_in places) → AllByRecursion P (volumes_in (put_volumes places volumes))
all_put P places [] a b = b
all_put P places (volume ∷ volumes) a b =
    all_put P (put_volume places volume) volumes a.1 (all_insert P volume.volser (record { volume = volume; is_twice = has_place volume.volser places }) places a.0 b)

-- the volumes

all_in_group : (P : VolumeDef → Type 0) → ((group volser : List ℕ) (keys : Members) → P (volume_of group volser keys))
    → (o : Option (List ℕ)) (t : Option Members) → AllByRecursion P (group_volumes o t)
all_in_group P h None t = tt
all_in_group P h (Some group) None = tt
all_in_group P h (Some group) (Some keys) = all_named P volser_of (volume_of group) (h group) (table_at (codes "volume") keys)

all_in_groups : (P : VolumeDef → Type 0) → ((group volser : List ℕ) (keys : Members) → P (volume_of group volser keys))
    → (ms : Members) → AllByRecursion P (all_volumes ms)
all_in_groups P h no_members = tt
all_in_groups P h (member l d ms) =
    all_append P (group_volumes (name_of l) (as_table d)) (all_volumes ms)
    (all_in_group P h (name_of l) (as_table d)) (all_in_groups P h ms)

all_of_volumes : (P : VolumeDef → Type 0) → ((group volser : List ℕ) (keys : Members) → P (volume_of group volser keys))
    → (groups : Members) → AllByRecursion P (volumes_in (put_volumes [] (all_volumes groups)))
all_of_volumes P h groups = all_put P [] (all_volumes groups) (all_in_groups P h groups) tt

abbrev IsAmong : List StorGroup → VolumeDef → Type 0
IsAmong groups volume = list_any (bytes_eq volume.group) (map (λ group. group.name) groups) ≡ true

same_bytes : (xs : List ℕ) → bytes_eq xs xs ≡ true
same_bytes xs = (bytes_eq-Decides xs xs).1 refl

or_left : (a b : Bool) → a ≡ true → (a || b) ≡ true
or_left a b e = rw e refl

or_right : (a b : Bool) → b ≡ true → (a || b) ≡ true
or_right true b e = refl
or_right false b e = e

group_is_among : (o : Option (List ℕ)) (t : Option Members) (items : List StorGroup) → AllByRecursion (IsAmong (with_named group_of o t items)) (group_volumes o t)
group_is_among None t items = tt
group_is_among (Some group) None items = tt
group_is_among (Some group) (Some keys) items =
    all_named (IsAmong (group_of group keys ∷ items)) volser_of (volume_of group)
    (λ volser inner. or_left (bytes_eq group group) (list_any (bytes_eq group) (map (λ g. g.name) items)) (same_bytes group)) (table_at (codes "volume") keys)

still_among : (o : Option (List ℕ)) (t : Option Members) (items : List StorGroup) (volume : VolumeDef) → IsAmong items volume → IsAmong (with_named group_of o t items) volume
still_among None t items volume a = a
still_among (Some group) None items volume a = a
still_among (Some group) (Some keys) items volume a = or_right (bytes_eq volume.group group) (list_any (bytes_eq volume.group) (map (λ g. g.name) items)) a

all_are_among : (ms : Members) → AllByRecursion (IsAmong (named name_of group_of ms)) (all_volumes ms)
all_are_among no_members = tt
all_are_among (member l d ms) =
    all_append (IsAmong (with_named group_of (name_of l) (as_table d) (named name_of group_of ms))) (group_volumes (name_of l) (as_table d)) (all_volumes ms) (group_is_among (name_of l) (as_table d) (named name_of group_of ms))
    (all_weaker (IsAmong (named name_of group_of ms)) (IsAmong (with_named group_of (name_of l) (as_table d) (named name_of group_of ms))) (all_volumes ms) (still_among (name_of l) (as_table d) (named name_of group_of ms)) (all_are_among ms))

-- how many volumes there are

few_placed : (o : Ordering) (k l : List ℕ) (p q : Place) (es rest : Places) → length rest ≤ length es + 1 → length (match_ordering o ((k, p) ∷ (l, q) ∷ es) ((l, p) ∷ es) ((l, q) ∷ rest)) ≤ length es + 2
few_placed Less k l p q es rest a = omega arith
few_placed Equal k l p q es rest a = omega arith
few_placed Greater k l p q es rest a = omega (arith, a)

few_insert : (k : List ℕ) (p : Place) (es : Places) → length (insert_entry (slice_cmp nat_cmp) es k p) ≤ length es + 1
few_insert k p [] = omega arith
few_insert k p (e ∷ es) = let a = few_placed (slice_cmp nat_cmp k e.0) k e.0 p e.1 es (insert_entry (slice_cmp nat_cmp) es k p) (few_insert k p es) in omega (arith, a)

few_put : (places : Places) (volumes : List VolumeDef) → length (put_volumes places volumes) ≤ length places + length volumes
few_put places [] = omega arith
few_put places (volume ∷ volumes) =
    let a = few_put (put_volume places volume) volumes in
    let b = few_insert volume.volser (record { volume = volume; is_twice = has_place volume.volser places }) places in
    omega (arith, a, b)

few_with : {X : Type 0} (build : List ℕ → Members → X) (o : Option (List ℕ)) (t : Option Members) (items : List X) → length (with_named build o t items) ≤ length items + 1
few_with build None t items = omega arith
few_with build (Some name) None items = omega arith
few_with build (Some name) (Some keys) items = omega arith

few_named : {X : Type 0} (reading : List ℕ → Option (List ℕ)) (build : List ℕ → Members → X) (ms : Members) → length (named reading build ms) ≤ key_count ms
few_named reading build no_members = omega arith
few_named reading build (member l d ms) =
    let a = few_with build (reading l) (as_table d) (named reading build ms) in
    let b = few_named reading build ms in
    omega (arith, a, b)

few_in_group : (o : Option (List ℕ)) (t : Option Members) → length (group_volumes o t) ≤ key_count (table_at (codes "volume") (or_empty t))
few_in_group None t = omega arith
few_in_group (Some group) None = omega arith
few_in_group (Some group) (Some keys) = few_named volser_of (volume_of group) (table_at (codes "volume") keys)

few_volumes : (ms : Members) → length (all_volumes ms) ≤ volume_total ms
few_volumes no_members = omega arith
few_volumes (member l d ms) =
    let a = few_in_group (name_of l) (as_table d) in
    let b = few_volumes ms in
    let c = length-append (group_volumes (name_of l) (as_table d)) (all_volumes ms) in
    omega (arith, a, b, c)

no_fault : (b : Bool) (fault : Fault) → (if b then Some fault else None) ≡ None → b ≡ false
no_fault true fault e = cc
no_fault false fault e = refl

few_where : (top : Members) → total_fault top ≡ None → length (volumes_in (places_of top)) ≤ most_volumes
few_where top e =
    let a = no_fault (nat_lt most_volumes (volume_total (groups_in top))) (TooMany (codes "volume")) e in
    let b = few_put [] (all_volumes (groups_in top)) in
    let c = few_volumes (groups_in top) in
    let d = length-map (places_of top) (λ place. place.1.volume) in
    grind (arith, nat_tests)

pub second_none : {A : Type 0} (o p : Option A) → option_or o p ≡ None → p ≡ None
second_none None p e = e
second_none (Some x) p e = cc

pub first_none : {A : Type 0} (o p : Option A) → option_or o p ≡ None → o ≡ None
first_none None p e = refl
first_none (Some x) p e = cc

pub no_tables : (top : Members) → form_fault top ≡ None → tables_fault top ≡ None
no_tables top e = first_none (tables_fault top) (option_or (total_fault top) (option_or (twice_fault top) None)) e

no_total : (top : Members) → form_fault top ≡ None → total_fault top ≡ None
no_total top e = first_none (total_fault top) (option_or (twice_fault top) None) (second_none (tables_fault top) (option_or (total_fault top) (option_or (twice_fault top) None)) e)

pub no_form : (top : Members) (outcomes : Outcomes) → fault_of top outcomes ≡ None → form_fault top ≡ None
no_form top outcomes e = first_none (form_fault top) (first_of (sources_fault outcomes ∷ assigned_faults top (routines_in outcomes) ∷ [])) e

-- the classes

is_data_class : (name : List ℕ) (keys : Members) → IsDataClass (data_class_of name keys)
is_data_class name keys = record {
  space = then_if space_in IsSpace value_is_space (get_member (codes "space") keys);
  volumes = then_if (integer_in 1 59) IsVolumeCount (integer_within 1 59) (get_member (codes "volcount") keys);
}

construct_names : (bytes : List ℕ) (top : Members) (outcomes : Outcomes) → members_are_sorted top ≡ true → (kind : Kind) → are_ascending (names_of kind (configuration_of bytes top (routines_in outcomes))) ≡ true
construct_names bytes top outcomes s DataClas = ascending _ (names_ascend (λ class. class.name) data_class_of (λ name keys. refl) (table_at (codes "dataclass") top) (inner_sorted (codes "dataclass") top s))
construct_names bytes top outcomes s StorClas = ascending _ (names_ascend (λ class. class.name) storage_class_of (λ name keys. refl) (table_at (codes "storclass") top) (inner_sorted (codes "storclass") top s))
construct_names bytes top outcomes s MgmtClas = ascending _ (names_ascend (λ class. class.name) management_class_of (λ name keys. refl) (table_at (codes "mgmtclass") top) (inner_sorted (codes "mgmtclass") top s))
construct_names bytes top outcomes s StorGrp = ascending _ (names_ascend (λ group. group.name) group_of (λ name keys. refl) (groups_in top) (inner_sorted (codes "storgroup") top s))

-- the routines

sound_kind : (kind : Kind) (source : Option (List ℕ)) (outcome : Outcome) → IsOutcomeOf kind source outcome → IfSome (sound_in outcome) (λ routine. routine.kind ≡ kind)
sound_kind kind source Absent c = tt
sound_kind kind source Long c = tt
sound_kind kind None (Sound routine) c = absurd c
sound_kind kind (Some text) (Sound routine) c = c.kind_is
sound_kind kind source (Faulty fault) c = tt

kinds_of : {top : Members} (outcomes : Outcomes) → AreOutcomes top outcomes → (kind : Kind) → IfSome (routine_of kind (routines_in outcomes)) (λ routine. routine.kind ≡ kind)
kinds_of {top} outcomes a DataClas = sound_kind DataClas (source_of DataClas top) outcomes.dataclas a.dataclas
kinds_of {top} outcomes a StorClas = sound_kind StorClas (source_of StorClas top) outcomes.storclas a.storclas
kinds_of {top} outcomes a MgmtClas = sound_kind MgmtClas (source_of MgmtClas top) outcomes.mgmtclas a.mgmtclas
kinds_of {top} outcomes a StorGrp = sound_kind StorGrp (source_of StorGrp top) outcomes.storgrp a.storgrp

is_configuration : (bytes : List ℕ) (top : Members) (outcomes : Outcomes) → members_are_sorted top ≡ true → AreOutcomes top outcomes → form_fault top ≡ None → IsConfiguration (configuration_of bytes top (routines_in outcomes))
is_configuration bytes top outcomes s a f = record {
  names = construct_names bytes top outcomes s;
  volsers = ascending _ (volsers_ascend (places_of top) (lined_volumes [] (all_volumes (groups_in top)) tt));
  few = few_where top (no_total top f);
  grouped = all_put (IsAmong (named name_of group_of (groups_in top))) [] (all_volumes (groups_in top)) (all_are_among (groups_in top)) tt;
  tracks = all_of_volumes (λ volume. 0 < volume.tracks) (λ group volser keys. has_tracks keys) (groups_in top);
  connected = all_of_volumes (λ volume. IsConnected volume.status) volume_connects (groups_in top);
  breakpoints = all_named (λ group. group.breakpoint ≤ most_breakpoint) name_of group_of breakpoint_within (groups_in top);
  classes = all_named IsDataClass name_of data_class_of is_data_class (table_at (codes "dataclass") top);
  kinds = kinds_of outcomes a;
}

pub configured : {bytes : List ℕ} {config : Configuration} → Configures bytes config → IsConfiguration config
configured {bytes} c =
    subst IsConfiguration (sym c.config_is) (is_configuration bytes c.top c.outcomes (document_ascends bytes c.top c.means.document) c.read (no_form c.top c.outcomes c.faultless))

pub lawful : {bytes : List ℕ} {top : Members} (routines : Routines) → MeansTable bytes top → AreOutcomes top (outcomes_from routines) → form_fault top ≡ None → IsConfiguration (configuration_of bytes top routines)
lawful {bytes} {top} routines m a f =
    subst (λ r. IsConfiguration (configuration_of bytes top r)) (back_from_outcomes routines) (is_configuration bytes top (outcomes_from routines) (document_ascends bytes top m.document) a f)
