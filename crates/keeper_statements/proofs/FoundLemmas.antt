-- What is left of a table once the rows that were found are taken out.
use Rattle.std.proofs.Common.{◌≡◌, ℕ, Bool, true, false, cond, not, ◌||◌, ◌&&◌, arith, length, List, [], ◌∷◌}
use Rattle.std.proofs.Common.{drop, filter, refl, sym, ap, subst, ◌∙◌, inl, inr, ℤ, Ordering, Less, Equal}
use Rattle.std.proofs.Common.{Greater, is_eq}
use Rattle.std.proofs.lemmas.Bool.{cases_Bool, false_from_ne_true}
use Rattle.std.proofs.lemmas.Cmp.{tied_itself}
use Rattle.std.specs.List.{list_any}
use Rattle.sqlite_value.specs.declared.value.Value.TheVariants.{Int}
use Rattle.sqlite_value.specs.Order.{Row, column, value_cmp}
use Rattle.sqlite_value.proofs.OrderLemmas.{value_cmp_total}
use Rattle.sqlite_trees.specs.Tree.{rowid, has_rowid, without_rowid}
use Rattle.sqlite_trees.proofs.ListLemmas.{filter-map}
use Rattle.sqlite_rules.specs.Lists.{Has}
use Rattle.sqlite_rules.specs.Calls.{ids_of}
use Rattle.sqlite_rules.specs.Edit.{id_in, without_all}
use Rattle.sqlite_rules.proofs.TableLemmas.{int_is}
use Rattle.sqlite_rules.proofs.PlaceLemmas.{tied_same}
use Rattle.sqlite_rules.proofs.ListLemmas.{all_has, some_has, some_from, has_filtered, has_kept}
use Rattle.sqlite_rules.proofs.ProbeLemmas.{has_mapped, mapped_has}
use Rattle.keeper_statements.specs.Tables.{IsKeyed, bodies}
use Rattle.keeper_statements.specs.Tests.{without, HasFound}
use Rattle.keeper_statements.proofs.RowLemmas.{keyed_filter}

-- the rowids of the rows that pass, and no other
pub record IsFound (p : Row → Bool) (rows found : List Row) : Type 0 where
  pub sound : (x : Row) → Has found x → (r : Row) × Has rows r × (p r ≡ true) × (x ≡ rowid r ∷ [])
  pub complete : (r : Row) → Has rows r → p r ≡ true → Has found (rowid r ∷ [])

pub filter_same_on : (p q : Row → Bool) (rows : List Row) → ((r : Row) → Has rows r → p r ≡ q r) → filter p rows ≡ filter q rows
filter_same_on p q [] same = refl
filter_same_on p q (r ∷ rows) same =
    ap (λ b. cond b (r ∷ filter p rows) (filter p rows)) (same r (inl refl)) ∙ ap (λ l. cond (q r) (r ∷ l) l) (filter_same_on p q rows (λ x h. same x (inr h)))

equal_is : (o : Ordering) → is_eq o ≡ true → o ≡ Equal
equal_is Less h = absurd (cc)
equal_is Equal h = refl
equal_is Greater h = absurd (cc)

filter_all : (rows : List Row) → filter (λ r. true) rows ≡ rows
filter_all [] = refl
filter_all (r ∷ rows) = ap (λ l. r ∷ l) (filter_all rows)

abbrev lacks : List ℤ → Row → Bool
lacks ids r = not (list_any (λ id. has_rowid id r) ids)

twice : (id : ℤ) (ids : List ℤ) (rows : List Row) → filter (lacks ids) (without_rowid id rows) ≡ filter (lacks (id ∷ ids)) rows
twice id ids [] = refl
twice id ids (r ∷ rows) =
    elim (has_rowid id r) as (λ b. filter (lacks ids) (cond (not b) (r ∷ without_rowid id rows) (without_rowid id rows))
    ≡ cond (not (b || list_any (λ k. has_rowid k r) ids)) (r ∷ filter (lacks (id ∷ ids)) rows) (filter (lacks (id ∷ ids)) rows))
    [ true ↦ twice id ids rows | false ↦ ap (λ l. cond (lacks ids r) (r ∷ l) l) (twice id ids rows) ]

without_all_is : (ids : List ℤ) (rows : List Row) → without_all rows ids ≡ filter (lacks ids) rows
without_all_is [] rows = sym (filter_all rows)
without_all_is (id ∷ ids) rows = without_all_is ids (without_rowid id rows) ∙ twice id ids rows

pub keyed_left : (ids : List ℤ) (rows : List Row) → IsKeyed rows → IsKeyed (without_all rows ids)
keyed_left ids rows keyed = subst IsKeyed (sym (without_all_is ids rows)) (keyed_filter (lacks ids) rows keyed)

pub removed : (p : Row → Bool) (rows found : List Row) → IsKeyed rows → IsFound p rows found → without_all rows (ids_of found) ≡ filter (λ r. not (p r)) rows
removed p rows found keyed is = without_all_is (ids_of found) rows ∙ filter_same_on (lacks (ids_of found)) (λ r. not (p r)) rows (λ r h. ap not (goes r h))
  where
    id_of : Row → ℤ
    id_of x = id_in (rowid x)

    number : (r : Row) → Has rows r → rowid r ≡ Int (id_in (rowid r))
    number r h = int_is (rowid r) (all_has _ rows r keyed.1 h)

    goes : (r : Row) → Has rows r → list_any (λ id. has_rowid id r) (ids_of found) ≡ p r
    goes r h = elim (cases_Bool (p r)) [
      | inl here ↦ some_from (λ id. has_rowid id r) (ids_of found) (id_in (rowid r)) (mapped_has (λ x. id_in (rowid x)) found (rowid r ∷ []) (is.complete r h here))
          (ap (λ v. is_eq (value_cmp (rowid r) v)) (sym (number r h)) ∙ ap is_eq (tied_itself value_cmp_total (rowid r))) ∙ sym here
      | inr out ↦ false_from_ne_true _ (λ some.
          let it = some_has (λ id. has_rowid id r) (ids_of found) some in
          let x = has_mapped (λ x. id_in (rowid x)) found it.0 it.1 in
          let old = is.sound x.0 x.1 in
          let id : it.0 ≡ id_in (rowid old.0) = x.2 ∙ ap (λ y. id_in (rowid y)) old.3 in
          let tie : value_cmp (rowid r) (rowid old.0) ≡ Equal = ap (value_cmp (rowid r)) (number old.0 old.1 ∙ ap Int (sym id)) ∙ equal_is _ it.2 in
          let same : r ≡ old.0 = tied_same rows r old.0 keyed.0 h old.1 tie in
          let passes : p r ≡ true = ap p same ∙ old.2 in
          cc) ∙ sym out
    ]

pub bodies_removed : (q : Row → Bool) (rows found : List Row) → IsKeyed rows → IsFound (λ r. q (drop 1 r)) rows found → bodies (without_all rows (ids_of found)) ≡ without q (bodies rows)
bodies_removed q rows found keyed is = ap bodies (removed (λ r. q (drop 1 r)) rows found keyed is) ∙ sym (filter-map (λ b. not (q b)) (drop 1) rows)

pub column_dropped : (row : Row) (at : ℕ) → column (drop 1 row) at ≡ column row (Rattle.std.proofs.Common.suc at)
column_dropped [] at = refl
column_dropped (v ∷ row) at = refl

pub and_true : (b : Bool) → (b && true) ≡ b
and_true true = refl
and_true false = refl

empty_by : (xs : List Row) → ((x : Row) → Has xs x → ⊥) → xs ≡ []
empty_by [] none = refl
empty_by (x ∷ xs) none = absurd (none x (inl refl))

-- strictly rising rows whose numbers are all the same are at most one
one_by : (id : Row) (xs : List Row) (x : Row) → IsKeyed xs → Has xs x → ((y : Row) → Has xs y → rowid y ∷ [] ≡ id) → (y : Row) × (xs ≡ y ∷ [])
one_by id [] x keyed h same = absurd h
one_by id (y ∷ []) x keyed h same = (y, refl)
one_by id (y ∷ z ∷ xs) x keyed h same =
    let tie : rowid y ≡ rowid z = ap rowid (same y (inl refl) ∙ sym (same z (inr (inl refl)))) in
    let low : value_cmp (rowid y) (rowid z) ≡ Less = keyed.0.0.0 in
    let even : value_cmp (rowid y) (rowid z) ≡ Equal = ap (value_cmp (rowid y)) (sym tie) ∙ tied_itself value_cmp_total (rowid y) in
    absurd cc

none_long : {X : Type 0} (xs : List X) → length xs ≡ 0 → xs ≡ []
none_long [] e = refl
none_long (x ∷ xs) e = absurd (omega (arith, e))

one_long : {X : Type 0} (xs : List X) → length xs ≡ 1 → (x : X) × (xs ≡ x ∷ [])
one_long [] e = absurd (omega (arith, e))
one_long (x ∷ []) e = (x, refl)
one_long (x ∷ y ∷ xs) e = absurd (omega (arith, e))

has_only : (x y : Row) → Has (y ∷ []) x → x ≡ y
has_only x y (inl same) = same
has_only x y (inr none) = absurd none

-- how many rows were found tells whether none passes, or one
pub found_count : (q : Row → Bool) (rows found : List Row) (count : ℕ) → IsKeyed rows → IsFound (λ r. q (drop 1 r)) rows found → count ≡ length found → HasFound q (bodies rows) count
found_count q rows found count keyed is counted = record {
  none = λ zero.
      let gone = none_long found (sym counted ∙ zero) in
      filter-map q (drop 1) rows ∙ ap bodies (empty_by (filter p rows) (λ x h.
      let had = has_filtered p rows x h in
      subst (λ (l : List Row). Has l (rowid x ∷ [])) gone (is.complete x had.0 had.1)));
  one = λ single.
      let only = one_long found (sym counted ∙ single) in
      let here : Has found only.0 = subst (λ (l : List Row). Has l only.0) (sym only.1) (inl refl) in
      let hit = is.sound only.0 here in
      let xs = one_by only.0 (filter p rows) hit.0 (keyed_filter p rows keyed) (has_kept p rows hit.0 hit.1 hit.2) (λ y h.
      let had = has_filtered p rows y h in
      has_only (rowid y ∷ []) only.0 (subst (λ (l : List Row). Has l (rowid y ∷ [])) only.1 (is.complete y had.0 had.1))) in
      (drop 1 xs.0, filter-map q (drop 1) rows ∙ ap bodies xs.1);
}
  where
    p : Row → Bool
    p r = q (drop 1 r)
