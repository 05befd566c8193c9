-- The first row behind a key, and the data set of it.
use Rattle.std.proofs.Common.{inl, inr, ◌≡◌, ℕ, Bool, true, false, List, [], ◌∷◌, Option, None, Some, Ordering, Less}
use Rattle.std.proofs.Common.{Equal, Greater, is_lt, refl, sym, ap, subst, ◌∙◌}
use Rattle.std.proofs.lemmas.Bool.{cases_Bool}
use Rattle.std.specs.Prelude.{option_map}
use Rattle.std.specs.BTreeMap.{is_at}
use Rattle.std.specs.Cmp.{IsTotalOrder, tied_itself}
use Rattle.std.specs.Cmp.Lexicographic.{nat_list_cmp_total, slice_cmp}
use Rattle.std.specs.List.{AllByRecursion}
use Rattle.std.specs.List.Sorted.{IsStrictlySortedBy}
use Rattle.std.specs.Map.{keys_of, lookup}
use Rattle.std.specs.Ordering.{nat_cmp, ordering_reverse}
use Rattle.ordered_index.specs.Index.{next_row}
use Rattle.ordered_index.specs.Rows.{AreRows, row_after}
use Rattle.ordered_index.proofs.LookupLemmas.{lookup-text}
use Rattle.sms_construct.specs.declared.data_set.DataSet.{DataSet}
use Rattle.desk_law.specs.State.{set_named}
use Rattle.desk_law.proofs.SetLemmas.{name-is}
use Rattle.desk_state.specs.Catalog.{IsCatalog, next_in, set_in}
use Rattle.desk_state.specs.Following.{IsFirstBehind, IsLastName, IsNextSet, is_behind}

less_is : (o : Ordering) → is_lt o ≡ true → o ≡ Less
less_is Less is = refl
less_is Equal is = absurd cc
less_is Greater is = absurd cc

module _ {K : Type 0} {R : K → K → Ordering} (total : IsTotalOrder R) where
  turned : (x y : K) → R x y ≡ Less → R y x ≡ Greater
  turned x y is = total.antisymm y x ∙ ap ordering_reverse is

  -- what isn't behind the key differs from what is
  apart : (from key x : K) (o : Ordering) → R from x ≡ o → is_lt o ≡ false → R from key ≡ Less → R key x ≡ Greater
  apart from key x Less is not less = absurd cc
  apart from key x Equal is not less = turned x key (sym (total.congr from x key is) ∙ less)
  apart from key x Greater is not less = turned x key (total.trans x from key (total.antisymm x from ∙ ap ordering_reverse is) less)

  all_behind : (k x : K) (ks : List K) → R k x ≡ Less → AllByRecursion (λ (y : K). R x y ≡ Less) ks → AllByRecursion (λ (y : K). R k y ≡ Less) ks
  all_behind k x [] less all = tt
  all_behind k x (y ∷ ks) less all = (total.trans k x y less all.0, all_behind k x ks less all.1)

  none_above : {V : Type 0} (k : K) (es : List (K × V)) → AllByRecursion (λ (y : K). R k y ≡ Less) (keys_of es) → lookup (is_at (R k)) es ≡ None
  none_above k [] all = refl
  none_above k (e ∷ es) all = rw all.0 (none_above k es all.1)

  first_found : {V : Type 0} (e : K × V) (es : List (K × V)) → lookup (is_at (R e.0)) (e ∷ es) ≡ Some e.1
  first_found e es = rw (tied_itself total e.0) refl

  none_before : {V : Type 0} (key : K) (e : K × V) (es : List (K × V)) → AreRows R (e ∷ es) → R key e.0 ≡ Less → lookup (is_at (R key)) (e ∷ es) ≡ None
  unfolding IsStrictlySortedBy
  none_before key e es sorted less = none_above key (e ∷ es) (less, all_behind key e.0 (keys_of es) less sorted.0)

  none_after : {V : Type 0} (from key : K) (es : List (K × V)) → row_after R from es ≡ None → R from key ≡ Less → lookup (is_at (R key)) es ≡ None
  none_after from key [] none less = refl
  none_after from key (e ∷ es) none less = elim (cases_Bool (is_lt (R from e.0))) [
    | inl is ↦ let no : Some e ≡ None = rw is at none in absurd cc
    | inr not ↦ let rest : row_after R from es ≡ None = rw not at none in rw (apart from key e.0 (R from e.0) refl not less) (none_after from key es rest less)
  ]

  -- the row is behind the key and found at its own, and nothing is found between the two
  record IsRowBehind {V : Type 0} (from : K) (es : List (K × V)) (row : K × V) : Type 0 where
    behind : R from row.0 ≡ Less
    stands : lookup (is_at (R row.0)) es ≡ Some row.1
    between : (key : K) → R from key ≡ Less → R key row.0 ≡ Less → lookup (is_at (R key)) es ≡ None

  row_behind : {V : Type 0} (from : K) (es : List (K × V)) (row : K × V) → AreRows R es → row_after R from es ≡ Some row → IsRowBehind from es row
  unfolding IsStrictlySortedBy
  row_behind from [] row sorted is = absurd cc
  row_behind from (e ∷ es) row sorted is = elim (cases_Bool (is_lt (R from e.0))) [
    | inl here ↦
        let found : Some e ≡ Some row = rw here at is in
        let same : e ≡ row = cc in
        subst (IsRowBehind from (e ∷ es)) same (record { behind = less_is (R from e.0) here; stands = first_found e es; between = λ key one two. none_before key e es sorted two })
    | inr not ↦
        let found : row_after R from es ≡ Some row = rw not at is in
        let rest = row_behind from es row sorted.1 found in
        record {
          behind = rest.behind;
          stands = rw (apart from row.0 e.0 (R from e.0) refl not rest.behind) rest.stands;
          between = λ key one two. rw (apart from key e.0 (R from e.0) refl not one) (rest.between key one two);
        }
  ]

-- the data set of the next row is the next one
next-found : (from : Option (List ℕ)) (rows : List (List ℕ × DataSet)) (sets : List DataSet) (next : Option (List ℕ × DataSet)) → next_row (slice_cmp nat_cmp) from rows ≡ next → IsCatalog rows
    → ((dsn : List ℕ) → set_in dsn rows ≡ set_named dsn sets) → IsNextSet from sets (option_map (λ row. row.1) next)
next-found None [] sets None is sorted same = λ dsn any. sym (same dsn)
next-found None (e ∷ es) sets None is sorted same = absurd cc
next-found None [] sets (Some row) is sorted same = absurd cc
next-found None (e ∷ es) sets (Some row) is sorted same =
    let first : e ≡ row = cc in
    let stands : set_named e.0 sets ≡ Some e.1 = sym (same e.0) ∙ sym (lookup-text e.0 (e ∷ es)) ∙ first_found nat_list_cmp_total e es in
    let name : e.1.dsn ≡ e.0 = name-is e.0 sets e.1 stands in
    subst (λ (r : List ℕ × DataSet). IsFirstBehind None sets r.1) first (record {
      behind = refl;
      stands = subst (λ n. set_named n sets ≡ Some e.1) (sym name) stands;
      first = λ dsn any before. sym (same dsn) ∙ sym (lookup-text dsn (e ∷ es))
          ∙ none_before nat_list_cmp_total dsn e es sorted (less_is (slice_cmp nat_cmp dsn e.0) (subst (λ n. is_lt (slice_cmp nat_cmp dsn n) ≡ true) name before));
    })
next-found (Some from) rows sets None is sorted same = λ dsn behind.
    sym (same dsn) ∙ sym (lookup-text dsn rows) ∙ none_after nat_list_cmp_total from dsn rows is (less_is (slice_cmp nat_cmp from dsn) behind)
next-found (Some from) rows sets (Some row) is sorted same =
    let found = row_behind nat_list_cmp_total from rows row sorted is in
    let stands : set_named row.0 sets ≡ Some row.1 = sym (same row.0) ∙ sym (lookup-text row.0 rows) ∙ found.stands in
    let name : row.1.dsn ≡ row.0 = name-is row.0 sets row.1 stands in
    record {
      behind = subst (λ n. is_lt (slice_cmp nat_cmp from n) ≡ true) (sym name) (ap is_lt found.behind);
      stands = subst (λ n. set_named n sets ≡ Some row.1) (sym name) stands;
      first = λ dsn behind before. sym (same dsn) ∙ sym (lookup-text dsn rows)
          ∙ found.between dsn (less_is (slice_cmp nat_cmp from dsn) behind) (less_is (slice_cmp nat_cmp dsn row.0) (subst (λ n. is_lt (slice_cmp nat_cmp dsn n) ≡ true) name before));
    }

pub next-set : (from : Option (List ℕ)) (rows : List (List ℕ × DataSet)) (sets : List DataSet) → IsCatalog rows → ((dsn : List ℕ) → set_in dsn rows ≡ set_named dsn sets) → IsNextSet from sets (next_in from rows)
next-set from rows sets sorted same = next-found from rows sets (next_row (slice_cmp nat_cmp) from rows) refl sorted same
