-- Names and serials in byte order.
use Rattle.std.proofs.Common.{◌≡◌, ℕ, Bool, true, false, List, [], ◌∷◌, map, refl, sym, ap, ◌∙◌, subst}
use Rattle.std.specs.Prelude.{Option, Some, None, ◌&&◌, if◌then◌else◌}
use Rattle.std.specs.Option.{option_and_then}
use Rattle.std.specs.BTreeMap.{insert_entry}
use Rattle.std.specs.List.{AllByRecursion}
use Rattle.std.specs.Map.{keys_of}
use Rattle.std.specs.Ordering.{nat_cmp, is_lt, is_eq, match_ordering, ordering_reverse}
use Rattle.std.specs.declared.cmp.Ordering.{Ordering}
use Rattle.std.specs.declared.cmp.Ordering.TheVariants.{Less, Equal, Greater}
use Rattle.std.specs.Cmp.Lexicographic.{slice_cmp}
use Rattle.std.proofs.lemmas.Bool.{and_parts}
use Rattle.std.proofs.lemmas.Cmp.{nat_list_cmp_total}
use Rattle.std.proofs.lemmas.Map.Text.{is_eq-slice_cmp}
use Rattle.std.proofs.lemmas.Slice.Eq.{bytes_eq-Decides}
use Rattle.toml.specs.Data.{Data, string, integer, float, boolean, datetime, array, table, Members, no_members, member}
use Rattle.toml.specs.Data.{get_member, as_table, is_sorted, members_are_sorted}
use Rattle.toml.specs.Data as toml
use Rattle.dsn_mask.specs.Name.{is_name, name_of}
use Rattle.sms_construct.specs.Configuration.{is_before, are_ascending}
use Rattle.sms_construct.specs.declared.volume.VolumeDef.{VolumeDef}
use Rattle.deck_meaning.specs.declared.place.Place.{Place}
use Rattle.deck_meaning.specs.Layout.{or_empty, table_at}
use Rattle.deck_meaning.specs.Constructs.{with_named, named}
use Rattle.deck_meaning.specs.Places.{Places, has_place, put_volume, put_volumes, volumes_in}

-- before another name, and before each of some

abbrev pub IsBelow : List ℕ → List ℕ → Type 0
IsBelow one other = slice_cmp nat_cmp one other ≡ Less

abbrev pub IsBelowAll : List ℕ → List (List ℕ) → Type 0
IsBelowAll name names = AllByRecursion (λ other. IsBelow name other) names

abbrev pub Ascend : List (List ℕ) → Type 0
Ascend [] = Unit {0}
Ascend (name ∷ names) = IsBelowAll name names × Ascend names

less_of : (o : Ordering) → is_lt o ≡ true → o ≡ Less
less_of Less e = refl
less_of Equal e = absurd cc
less_of Greater e = absurd cc

below_more : (one two : List ℕ) (names : List (List ℕ)) → IsBelow one two → IsBelowAll two names → IsBelowAll one names
below_more one two [] a b = tt
below_more one two (name ∷ names) a b = (nat_list_cmp_total.trans one two name a b.0, below_more one two names a b.1)

before_first : (name : List ℕ) (names : List (List ℕ)) → IsBelowAll name names → is_before name names ≡ true
before_first name [] a = refl
before_first name (next ∷ names) a = ap is_lt a.0

pub ascending : (names : List (List ℕ)) → Ascend names → are_ascending names ≡ true
ascending [] a = refl
ascending (name ∷ names) a = rw (before_first name names a.0, ascending names a.1) refl

-- the names of a table ascend

abbrev IsLabel : {X : Type 0} → (X → List ℕ) → (List ℕ → Members → X) → Type 0
IsLabel label build = (name : List ℕ) (keys : Members) → label (build name keys) ≡ name

same_name : (b : Bool) (name other : List ℕ) → (if b then Some name else None) ≡ Some other → name ≡ other
same_name true name other e = cc
same_name false name other e = absurd cc

labelled : {X : Type 0} (label : X → List ℕ) (build : List ℕ → Members → X) → IsLabel label build → (l name : List ℕ) (keys : Members) → name_of l ≡ Some name → l ≡ label (build name keys)
labelled label build is l name keys e = same_name (is_name l) l name e ∙ sym (is name keys)

above_with : {X : Type 0} (label : X → List ℕ) (build : List ℕ → Members → X) → IsLabel label build → (k l : List ℕ) (o : Option (List ℕ)) (t : Option Members) (items : List X) → name_of l ≡ o → IsBelow k l
    → IsBelowAll k (map label items) → IsBelowAll k (map label (with_named build o t items))
above_with label build is k l None t items e b a = a
above_with label build is k l (Some name) None items e b a = a
above_with label build is k l (Some name) (Some keys) items e b a = (subst (IsBelow k) (labelled label build is l name keys e) b, a)

ascend_with : {X : Type 0} (label : X → List ℕ) (build : List ℕ → Members → X) → IsLabel label build → (l : List ℕ) (o : Option (List ℕ)) (t : Option Members) (items : List X) → name_of l ≡ o
    → IsBelowAll l (map label items) → Ascend (map label items) → Ascend (map label (with_named build o t items))
ascend_with label build is l None t items e b a = a
ascend_with label build is l (Some name) None items e b a = a
ascend_with label build is l (Some name) (Some keys) items e b a = (subst (λ z. IsBelowAll z (map label items)) (labelled label build is l name keys e) b, a)

pub record Sorted (l : List ℕ) (d : Data) (ms : Members) : Type 0 where
  pub front : toml.is_before l ms ≡ true
  pub here : is_sorted d ≡ true
  pub more : members_are_sorted ms ≡ true

parts : (l : List ℕ) (d : Data) (ms : Members) → members_are_sorted (member l d ms) ≡ true → Sorted l d ms
parts l d ms e =
    let (a, b) = and_parts (toml.is_before l ms && is_sorted d) (members_are_sorted ms) e in
    let (c, f) = and_parts (toml.is_before l ms) (is_sorted d) a in
    record { front = c; here = f; more = b }

above_named : {X : Type 0} (label : X → List ℕ) (build : List ℕ → Members → X) → IsLabel label build → (k : List ℕ) (ms : Members) → toml.is_before k ms ≡ true → members_are_sorted ms ≡ true
    → IsBelowAll k (map label (named name_of build ms))
above_named label build is k no_members b s = tt
above_named label build is k (member l d ms) b s =
    let p = parts l d ms s in
    let less = less_of (slice_cmp nat_cmp k l) b in
    above_with label build is k l (name_of l) (as_table d) (named name_of build ms) refl less (below_more k l (map label (named name_of build ms)) less (above_named label build is l ms p.front p.more))

pub names_ascend : {X : Type 0} (label : X → List ℕ) (build : List ℕ → Members → X) → IsLabel label build → (ms : Members) → members_are_sorted ms ≡ true → Ascend (map label (named name_of build ms))
names_ascend label build is no_members s = tt
names_ascend label build is (member l d ms) s =
    let p = parts l d ms s in
    ascend_with label build is l (name_of l) (as_table d) (named name_of build ms) refl (above_named label build is l ms p.front p.more) (names_ascend label build is ms p.more)

-- a table inside a table

abbrev IfSorted : Option Data → Type 0
IfSorted None = Unit {0}
IfSorted (Some d) = is_sorted d ≡ true

sorted_at : (o : Ordering) (d : Data) (rest : Option Data) → is_sorted d ≡ true → IfSorted rest → IfSorted (match_ordering o rest (Some d) rest)
sorted_at Less d rest a b = b
sorted_at Equal d rest a b = a
sorted_at Greater d rest a b = b

get_sorted : (k : List ℕ) (ms : Members) → members_are_sorted ms ≡ true → IfSorted (get_member k ms)
get_sorted k no_members s = tt
get_sorted k (member l d ms) s = let p = parts l d ms s in sorted_at (slice_cmp nat_cmp k l) d (get_member k ms) p.here (get_sorted k ms p.more)

table_sorted : (o : Option Data) → IfSorted o → members_are_sorted (or_empty (option_and_then as_table o)) ≡ true
table_sorted None s = refl
table_sorted (Some (string text)) s = refl
table_sorted (Some (integer z)) s = refl
table_sorted (Some (float x)) s = refl
table_sorted (Some (boolean b)) s = refl
table_sorted (Some (datetime dt)) s = refl
table_sorted (Some (array ds)) s = refl
table_sorted (Some (table ms)) s = s

pub inner_sorted : (key : List ℕ) (ms : Members) → members_are_sorted ms ≡ true → members_are_sorted (table_at key ms) ≡ true
inner_sorted key ms s = table_sorted (get_member key ms) (get_sorted key ms s)

-- the volumes at their places

abbrev pub Lined : Places → Type 0
Lined [] = Unit {0}
Lined (e ∷ es) = (e.1.volume.volser ≡ e.0) × IsBelowAll e.0 (keys_of es) × Lined es

equal_of : (k l : List ℕ) → slice_cmp nat_cmp k l ≡ Equal → k ≡ l
equal_of k l e = (bytes_eq-Decides k l).0 (sym (is_eq-slice_cmp k l) ∙ ap is_eq e)

turned : (o : Ordering) → Greater ≡ ordering_reverse o → o ≡ Less
turned Less e = refl
turned Equal e = absurd cc
turned Greater e = absurd cc

less_turned : (k l : List ℕ) → slice_cmp nat_cmp k l ≡ Greater → IsBelow l k
less_turned k l e = turned (slice_cmp nat_cmp l k) (sym e ∙ nat_list_cmp_total.antisymm k l)

below_placed : (o : Ordering) (j k l : List ℕ) (p q : Place) (es rest : Places) → IsBelow j k → IsBelow j l → IsBelowAll j (keys_of es) → IsBelowAll j (keys_of rest)
    → IsBelowAll j (keys_of (match_ordering o ((k, p) ∷ (l, q) ∷ es) ((l, p) ∷ es) ((l, q) ∷ rest)))
below_placed Less j k l p q es rest a b c d = (a, (b, c))
below_placed Equal j k l p q es rest a b c d = (b, c)
below_placed Greater j k l p q es rest a b c d = (b, d)

below_insert : (j k : List ℕ) (p : Place) (es : Places) → IsBelow j k → IsBelowAll j (keys_of es) → IsBelowAll j (keys_of (insert_entry (slice_cmp nat_cmp) es k p))
below_insert j k p [] a b = (a, tt)
below_insert j k p (e ∷ es) a b = below_placed (slice_cmp nat_cmp k e.0) j k e.0 p e.1 es (insert_entry (slice_cmp nat_cmp) es k p) a b.0 b.1 (below_insert j k p es a b.1)

lined_placed : (o : Ordering) (k l : List ℕ) (p q : Place) (es rest : Places) → slice_cmp nat_cmp k l ≡ o → p.volume.volser ≡ k → Lined ((l, q) ∷ es) → Lined rest → (o ≡ Greater → IsBelowAll l (keys_of rest))
    → Lined (match_ordering o ((k, p) ∷ (l, q) ∷ es) ((l, p) ∷ es) ((l, q) ∷ rest))
lined_placed Less k l p q es rest e s a b c = (s, (e, below_more k l (keys_of es) e a.1), a)
lined_placed Equal k l p q es rest e s a b c = (s ∙ equal_of k l e, a.1, a.2)
lined_placed Greater k l p q es rest e s a b c = (a.0, c refl, b)

lined_insert : (k : List ℕ) (p : Place) (es : Places) → p.volume.volser ≡ k → Lined es → Lined (insert_entry (slice_cmp nat_cmp) es k p)
lined_insert k p [] s a = (s, tt, tt)
lined_insert k p (e ∷ es) s a =
    lined_placed (slice_cmp nat_cmp k e.0) k e.0 p e.1 es (insert_entry (slice_cmp nat_cmp) es k p) refl s a (lined_insert k p es s a.2) (λ g. below_insert e.0 k p es (less_turned k e.0 g) a.1)

pub lined_volumes : (places : Places) (volumes : List VolumeDef) → Lined places → Lined (put_volumes places volumes)
lined_volumes places [] a = a
lined_volumes places (volume ∷ volumes) a =
    lined_volumes (put_volume places volume) volumes (lined_insert volume.volser (record { volume = volume; is_twice = has_place volume.volser places }) places refl a)

keys_are : (es : Places) → Lined es → keys_of es ≡ map (λ volume. volume.volser) (volumes_in es)
keys_are [] a = refl
keys_are (e ∷ es) a = ap (λ z. e.0 ∷ z) (keys_are es a.2) ∙ ap (λ z. z ∷ map (λ volume. volume.volser) (volumes_in es)) (sym a.0)

keys_ascend : (es : Places) → Lined es → Ascend (keys_of es)
keys_ascend [] a = tt
keys_ascend (e ∷ es) a = (a.1, keys_ascend es a.2)

pub volsers_ascend : (es : Places) → Lined es → Ascend (map (λ volume. volume.volser) (volumes_in es))
volsers_ascend es a = subst Ascend (keys_are es a) (keys_ascend es a)
