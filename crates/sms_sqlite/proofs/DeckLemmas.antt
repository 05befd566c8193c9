-- A deck put where its number belongs.
use Rattle.std.proofs.Common.{◌≡◌, Bool, true, false, cond, ℕ, pos, List, [], ◌∷◌, ◌++◌, filter, Some, refl, ap, ap₂}
use Rattle.std.proofs.Common.{sym, subst, ◌∙◌, append-nil, Ordering, Less, Equal, Greater, is_eq, nat_eq}
use Rattle.std.specs.List.{list_any}
use Rattle.sqlite.specs.Order.{Row}
use Rattle.sqlite.specs.declared.types.Value.TheVariants.{Int}
use Rattle.sqlite_value.specs.Order.{value_cmp}
use Rattle.sqlite_trees.specs.Tree.{put_row, rowid}
use Rattle.sqlite_rules.specs.Edit.{is_taken}
use Rattle.sms_keeper.specs.Tables.{is_deck}
use Rattle.sms_keeper.specs.declared.deck_row.DeckRow.{DeckRow}
use Rattle.keeper_statements.specs.Tests.{deck_row}
use Rattle.sms_sqlite.specs.Values.{each_in, deck_in}
use Rattle.sms_sqlite.proofs.ReadLemmas.{each_append, each_parts, each_any}
use Rattle.sms_sqlite.proofs.ValueLemmas.{deck_numbered, int_tie}

-- the parts of rows between which a row is put
record Between (row : Row) (rows : List Row) : Type 0 where
  front : List Row
  back : List Row
  parts : rows ≡ front ++ back
  put : put_row row rows ≡ front ++ row ∷ back

between : (row : Row) (rows : List Row) → is_taken rows row ≡ false → Between row rows
between row [] free = record { front = []; back = []; parts = refl; put = refl }
between row (r ∷ rows) free = by (value_cmp (rowid r) (rowid row)) refl (λ later. between row rows later)
  where
    by : (o : Ordering) → value_cmp (rowid r) (rowid row) ≡ o → (is_taken rows row ≡ false → Between row rows) → Between row (r ∷ rows)
    by Less is rest =
        let later : is_taken rows row ≡ false = rw is at free in
        let more = rest later in
        record { front = r ∷ more.front; back = more.back; parts = ap (λ (l : List Row). r ∷ l) more.parts; put = rw is (ap (λ (l : List Row). r ∷ l) more.put) }
    by Equal is rest = absurd (let e = rw is at free in cc)
    by Greater is rest = record { front = []; back = r ∷ rows; parts = refl; put = rw is refl }

deck_tied : (count : ℕ) (bytes : List ℕ) (row : Row) (x : DeckRow) → deck_in row ≡ Some x → is_eq (value_cmp (rowid row) (rowid (deck_row (pos count) bytes))) ≡ is_deck count x
deck_tied count bytes row x e = ap (λ v. is_eq (value_cmp v (Int (pos count)))) (deck_numbered row x e) ∙ int_tie x.count count

no_deck : (count : ℕ) (xs : List DeckRow) → list_any (is_deck count) xs ≡ false → filter (is_deck count) xs ≡ []
no_deck count [] none = refl
no_deck count (x ∷ xs) none = by (is_deck count x) refl (λ less. no_deck count xs less)
  where
    by : (b : Bool) → is_deck count x ≡ b → (list_any (is_deck count) xs ≡ false → filter (is_deck count) xs ≡ []) → filter (is_deck count) (x ∷ xs) ≡ []
    by true is rest = absurd (let e = rw is at none in cc)
    by false is rest = rw is (rest (rw is at none))

pub filter_append : (test : DeckRow → Bool) (xs ys : List DeckRow) → filter test (xs ++ ys) ≡ filter test xs ++ filter test ys
filter_append test [] ys = refl
filter_append test (x ∷ xs) ys = rw (filter_append test xs ys) (joined (test x) (filter test xs) (filter test ys))
  where
    joined : (c : Bool) (l m : List DeckRow) → cond c (x ∷ (l ++ m)) (l ++ m) ≡ cond c (x ∷ l) l ++ m
    joined true l m = refl
    joined false l m = refl

none_before : (xs ys : List DeckRow) → xs ++ ys ≡ [] → (xs ≡ []) × (ys ≡ [])
none_before [] ys e = (refl, e)
none_before (x ∷ xs) ys e = absurd cc

-- under each number the same decks, whether one is put in its place or behind the others
pub record IsPut (count : ℕ) (bytes : List ℕ) (rows : List Row) (xs : List DeckRow) : Type 0 where
  pub found : List DeckRow
  pub read : each_in deck_in (put_row (deck_row (pos count) bytes) rows) ≡ Some found
  pub alike : (number : ℕ) → filter (is_deck number) found ≡ filter (is_deck number) (xs ++ record { count = count; bytes = bytes } ∷ [])

pub deck_put : (count : ℕ) (bytes : List ℕ) (rows : List Row) (xs : List DeckRow) → each_in deck_in rows ≡ Some xs → is_taken rows (deck_row (pos count) bytes) ≡ false → IsPut count bytes rows xs
unfolding deck_in
deck_put count bytes rows xs all free =
    let new : DeckRow = record { count = count; bytes = bytes } in
    let row = deck_row (pos count) bytes in
    let at = between row rows free in
    let cut = each_parts deck_in at.front at.back xs (ap (each_in deck_in) (sym at.parts) ∙ all) in
    let one : each_in deck_in (row ∷ at.back) ≡ Some (new ∷ cut.behind) = rw cut.back_is refl in
    let none : filter (is_deck count) xs ≡ [] = no_deck count xs (sym (each_any deck_in (λ r. is_eq (value_cmp (rowid r) (rowid row))) (is_deck count) (deck_tied count bytes) rows xs all) ∙ free) in
    record {
      found = cut.before ++ new ∷ cut.behind;
      read = ap (each_in deck_in) at.put ∙ each_append deck_in at.front (row ∷ at.back) cut.before (new ∷ cut.behind) cut.front_is one;
      alike = λ number. alike number xs cut.before cut.behind cut.is none;
    }
  where
    alike : (number : ℕ) (xs before behind : List DeckRow) → xs ≡ before ++ behind → filter (is_deck count) xs ≡ []
        → filter (is_deck number) (before ++ record { count = count; bytes = bytes } ∷ behind) ≡ filter (is_deck number) (xs ++ record { count = count; bytes = bytes } ∷ [])
    alike number xs before behind parts none = by (nat_eq count number) refl
      where
        new : DeckRow
        new = record { count = count; bytes = bytes }

        by : (b : Bool) → nat_eq count number ≡ b → filter (is_deck number) (before ++ new ∷ behind) ≡ filter (is_deck number) (xs ++ new ∷ [])
        by true is =
            let same = Rattle.std.proofs.lemmas.Bool.eqb-true count number is in
            let gone = none_before (filter (is_deck number) before) (filter (is_deck number) behind)
            (sym (filter_append (is_deck number) before behind) ∙ ap (filter (is_deck number)) (sym parts) ∙ subst (λ n. filter (is_deck n) xs ≡ []) same none) in
            filter_append (is_deck number) before (new ∷ behind) ∙ ap₂ (λ (l m : List DeckRow). l ++ cond (is_deck number new) (new ∷ m) m) gone.0 gone.1
            ∙ sym (filter_append (is_deck number) xs (new ∷ []) ∙ ap (λ (l : List DeckRow). l ++ filter (is_deck number) (new ∷ [])) (subst (λ n. filter (is_deck n) xs ≡ []) same none))
        by false is =
            filter_append (is_deck number) before (new ∷ behind) ∙ ap (λ b. filter (is_deck number) before ++ cond b (new ∷ filter (is_deck number) behind) (filter (is_deck number) behind)) is
            ∙ sym (filter_append (is_deck number) before behind) ∙ ap (filter (is_deck number)) (sym parts) ∙ sym (append-nil (filter (is_deck number) xs))
            ∙ sym (filter_append (is_deck number) xs (new ∷ []) ∙ ap (λ b. filter (is_deck number) xs ++ cond b (new ∷ []) []) is)
