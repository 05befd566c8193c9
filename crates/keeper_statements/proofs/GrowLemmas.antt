-- What the making of the missing tables leaves.
use Rattle.std.proofs.Common.{◌≡◌, ◌<◌, ◌+◌, ◌++◌, ◌||◌, ◌&&◌, ◌==◌, ℕ, Bool, true, false, cond, List, [], ◌∷◌, codes}
use Rattle.std.proofs.Common.{map, filter, find, Some, None, Option, refl, sym, ap, subst, ◌∙◌, inl, inr, arith}
use Rattle.std.proofs.Common.{append-nil, nat_lt, ltb-true, lt-ltb, eq-eqb, ne_eqb}
use Rattle.std.specs.Prelude.{is_some}
use Rattle.std.specs.List.{AllByRecursion, list_any, position_from}
use Rattle.std.proofs.lemmas.Bool.{or_parts}
use Rattle.sqlite.specs.Does.{lacks_sequence}
use Rattle.sqlite.specs.Effect.{Database, IsDatabase}
use Rattle.sqlite.specs.Schema.{Schema}
use Rattle.sqlite.specs.Table.{Table}
use Rattle.sqlite_catalog.specs.Change.{automatics, created, is_used, next_tree}
use Rattle.sqlite_catalog.proofs.StepLemmas.{table_below}
use Rattle.sqlite_rules.proofs.ListLemmas.{all_from, all_has, has_either, has_found, has_right, test_from, test_has}
use Rattle.sqlite_rules.specs.Lists.{Has}
use Rattle.sqlite_schema.specs.Names.{same_name}
use Rattle.sqlite_schema.specs.Rules.{guards}
use Rattle.sqlite_schema.specs.declared.schema.Index.{Index}
use Rattle.sqlite_schema.specs.declared.schema.Reference.{Reference}
use Rattle.sqlite_schema.specs.declared.schema.View.{View as Stored}
use Rattle.keeper_statements.specs.Found.{CanServe, HasForm, IsThere, MayBeThere, MayHaveForm, are_bound, is_desk_name}
use Rattle.keeper_statements.specs.Found.{keys_of, keys_on, placed, table_in, table_of}
use Rattle.keeper_statements.specs.Changes.{empty_tables}
use Rattle.keeper_statements.specs.Presence.{all_there, has_table, none_there, present_in}
use Rattle.keeper_statements.specs.declared.present.Present.{Present}
use Rattle.keeper_statements.specs.Schema.{desk_tables, sets_table, replies_table, decks_table, statuses_table}
use Rattle.keeper_statements.specs.Schema.{floors_table}
use Rattle.keeper_statements.specs.Steps.{HasMade, HasMadeTable, Provides}
use Rattle.keeper_statements.specs.Tables.{HasTable, IsKeyed, IsLegible, IsReady, Serves, bodies, rows_at, rows_named}
use Rattle.keeper_statements.specs.Tables.{tables_in}
use Rattle.keeper_statements.proofs.CreateLemmas.{any_past, still_whole}
use Rattle.keeper_statements.proofs.EditLemmas.{rows_of_form}
use Rattle.keeper_statements.proofs.PlaceLemmas.{has_table_in}

module _ {X : Type 0} (p : X → Bool) where
  find_left : (xs ys : List X) (x : X) → find p xs ≡ Some x → find p (xs ++ ys) ≡ Some x
  find_left [] ys x e = absurd cc
  find_left (y ∷ xs) ys x e = by (p y) e (λ f. find_left xs ys x f)
    where
      by : (b : Bool) → cond b (Some y) (find p xs) ≡ Some x → (find p xs ≡ Some x → find p (xs ++ ys) ≡ Some x) → cond b (Some y) (find p (xs ++ ys)) ≡ Some x
      by true e more = e
      by false e more = more e

  find_right : (xs ys : List X) → find p xs ≡ None → find p (xs ++ ys) ≡ find p ys
  find_right [] ys e = refl
  find_right (y ∷ xs) ys e = by (p y) e (λ f. find_right xs ys f)
    where
      by : (b : Bool) → cond b (Some y) (find p xs) ≡ None → (find p xs ≡ None → find p (xs ++ ys) ≡ find p ys) → cond b (Some y) (find p (xs ++ ys)) ≡ find p ys
      by true e more = absurd cc
      by false e more = more e

  find_none : (xs : List X) → ((x : X) → Has xs x → p x ≡ false) → find p xs ≡ None
  find_none [] out = refl
  find_none (y ∷ xs) out = ap (λ b. cond b (Some y) (find p xs)) (out y (inl refl)) ∙ find_none xs (λ x h. out x (inr h))

  found_any : (xs : List X) → is_some (find p xs) ≡ list_any p xs
  found_any [] = refl
  found_any (y ∷ xs) = by (p y) (found_any xs)
    where
      by : (b : Bool) → is_some (find p xs) ≡ list_any p xs → is_some (cond b (Some y) (find p xs)) ≡ (b || list_any p xs)
      by true same = refl
      by false same = same

  any_behind : (xs ys : List X) → list_any p ys ≡ false → list_any p (xs ++ ys) ≡ list_any p xs
  any_behind [] ys none = none
  any_behind (x ∷ xs) ys none = ap (λ b. p x || b) (any_behind xs ys none)

  position_any : (xs : List X) (start : ℕ) → is_some (position_from p start xs) ≡ list_any p xs
  position_any [] start = refl
  position_any (x ∷ xs) start = by (p x) (position_any xs (start + 1))
    where
      by : (b : Bool) → is_some (position_from p (start + 1) xs) ≡ list_any p xs → is_some (cond b (Some start) (position_from p (start + 1) xs)) ≡ (b || list_any p xs)
      by true same = refl
      by false same = same

  filter_none : (xs : List X) → ((x : X) → Has xs x → p x ≡ false) → filter p xs ≡ []
  filter_none [] out = refl
  filter_none (y ∷ xs) out = ap (λ b. cond b (y ∷ filter p xs) (filter p xs)) (out y (inl refl)) ∙ filter_none xs (λ x h. out x (inr h))

  filter_both : (xs ys : List X) → filter p (xs ++ ys) ≡ filter p xs ++ filter p ys
  filter_both [] ys = refl
  filter_both (y ∷ xs) ys = by (p y) (filter_both xs ys)
    where
      by : (b : Bool) → filter p (xs ++ ys) ≡ filter p xs ++ filter p ys → cond b (y ∷ filter p (xs ++ ys)) (filter p (xs ++ ys)) ≡ cond b (y ∷ filter p xs) (filter p xs) ++ filter p ys
      by true same = ap (λ l. y ∷ l) same
      by false same = same

and_none : (x : Bool) → (x && false) ≡ false
and_none true = refl
and_none false = refl

automatic_table : (table : Table) (at tree : ℕ) (keys : List (List ℕ)) (i : Index) → Has (automatics table at tree keys) i → i.table ≡ table.tree
automatic_table table at tree [] i h = absurd h
automatic_table table at tree (key ∷ keys) i (inl same) = ap (λ (j : Index). j.table) same
automatic_table table at tree (key ∷ keys) i (inr later) = automatic_table table (at + 1) (tree + 1) keys i later

unguarded : (i : Index) (table : Table) → (i.table ≡ table.tree → ⊥) → guards i table ≡ false
unguarded i table other = ap (λ b. i.is_unique && b) (ne_eqb i.table table.tree other) ∙ and_none i.is_unique

none_found : {X : Type 0} (o : Option X) → is_some o ≡ false → o ≡ None
none_found None e = refl
none_found (Some x) e = absurd cc

-- whether a name is used, by the names of the tables, the indexes and what is set aside
used_by_names : (schema : Schema) (name : List ℕ)
    → is_used schema name ≡ (list_any (λ (t : Table). same_name t.name name) schema.tables || list_any (λ (i : Index). same_name i.name name) schema.indexes || list_any (λ (w : Stored). same_name w.name name) schema.views)
used_by_names schema name = λ i.
    position_any (λ (t : Table). same_name t.name name) schema.tables 0 i || position_any (λ (x : Index). same_name x.name name) schema.indexes 0 i || position_any (λ (w : Stored). same_name w.name name) schema.views 0 i

-- where a name isn't used no table has it
pub unused_table : (schema : Schema) (name : List ℕ) → is_used schema name ≡ false → table_of schema name ≡ None
unused_table schema name free =
    let none = (or_parts _ _ (or_parts _ _ (sym (used_by_names schema name) ∙ free)).0).0 in
    none_found (table_of schema name) (found_any (λ (t : Table). same_name t.name name) schema.tables ∙ none)

-- a form that a table can be made of
record IsForm (form : Table) : Type 0 where
  same : same_name form.name form.name ≡ true
  own : (n : ℕ) → map (λ (i : Index). (i.columns, i.order.digits)) (filter (λ i. guards i (placed form n)) (automatics (placed form n) 0 (n + 1) form.uniques)) ≡ keys_of form
  alone : list_any (λ (r : Reference). is_desk_name r.parent) form.references ≡ false
  uncounted : form.is_counted ≡ false
  only : AllByRecursion (λ other. same_name form.name other.name ≡ true → other ≡ form) desk_tables
  apart : (n : ℕ) → AllByRecursion (λ other. list_any (λ (i : Index). same_name i.name other.name) (automatics (placed form n) 0 (n + 1) form.uniques) ≡ false) desk_tables

module _ (schema : Schema) (form : Table) where
  abbrev after : Schema
  after = created schema form

  abbrev last : Table
  last = placed form (next_tree schema)

  -- the keys of a table of another tree stay
  keys_stay : (table : Table) → (table.tree ≡ next_tree schema → ⊥) → keys_on after table ≡ keys_on schema table
  keys_stay table other =
      let news = automatics last 0 (next_tree schema + 1) form.uniques in
      ap (map (λ (i : Index). (i.columns, i.order.digits)))
      (filter_both (λ i. guards i table) schema.indexes news
      ∙ ap (λ (l : List Index). filter (λ i. guards i table) schema.indexes ++ l) (filter_none (λ i. guards i table) news (λ i h. unguarded i table (λ same. other (sym same ∙ automatic_table last 0 (next_tree schema + 1) form.uniques i h))))
      ∙ append-nil (filter (λ i. guards i table) schema.indexes))

  keys_made : IsForm form → are_bound schema ≡ true → keys_on after last ≡ keys_of form
  keys_made is bound =
      let news = automatics last 0 (next_tree schema + 1) form.uniques in
      ap (map (λ (i : Index). (i.columns, i.order.digits)))
      (filter_both (λ i. guards i last) schema.indexes news
      ∙ ap (λ (l : List Index). l ++ filter (λ i. guards i last) news) (filter_none (λ i. guards i last) schema.indexes (λ i h. unguarded i last (λ same.
      let low : i.table < next_tree schema = ltb-true i.table (next_tree schema) (test_has (λ (i : Index). nat_lt i.table (next_tree schema)) schema.indexes i bound h) in
      absurd (omega (arith, same, low))))))
      ∙ is.own (next_tree schema)

  there_stays : (other : Table) → IsThere other schema → IsThere other after
  there_stays other h =
      let below : h.tree < next_tree schema = table_below schema (placed other h.tree) (has_table_in other schema h) in
      record {
        tree = h.tree;
        named = find_left (λ (t : Table). same_name t.name other.name) schema.tables (last ∷ []) (placed other h.tree) h.named;
        low = h.low;
        keys = keys_stay (placed other h.tree) (λ same. absurd (omega (arith, same, below))) ∙ h.keys;
      }

  there_made : IsForm form → are_bound schema ≡ true → next_tree schema < 65536 → table_of schema form.name ≡ None → IsThere form after
  there_made is bound low none = record {
    tree = next_tree schema;
    named = find_right (λ (t : Table). same_name t.name form.name) schema.tables (last ∷ []) none ∙ ap (λ b. cond b (Some last) None) is.same;
    low = low;
    keys = keys_made is bound;
  }

  abbrev own_names : List ℕ → Bool
  own_names name = list_any (λ (i : Index). same_name i.name name) (automatics last 0 (next_tree schema + 1) form.uniques)

  -- a name that isn't used stays so, unless it is the form's
  unused_stays : (name : List ℕ) → same_name form.name name ≡ false → own_names name ≡ false → is_used schema name ≡ false → is_used after name ≡ false
  unused_stays name differ own free =
      used_by_names after name
      ∙ (λ i. any_behind (λ (t : Table). same_name t.name name) schema.tables (last ∷ []) (ap (λ b. b || false) differ) i
      || any_behind (λ (x : Index). same_name x.name name) schema.indexes (automatics last 0 (next_tree schema + 1) form.uniques) own i
      || list_any (λ (w : Stored). same_name w.name name) schema.views)
      ∙ sym (used_by_names schema name) ∙ free

  may_grow : (other : Table) → IsForm form → are_bound schema ≡ true → next_tree schema < 65536 → table_of schema form.name ≡ None
      → (same_name form.name other.name ≡ true → other ≡ form) → own_names other.name ≡ false → MayBeThere other schema → MayBeThere other after
  may_grow other is bound low none only own (inr there) = inr (there_stays other there)
  may_grow other is bound low none only own (inl free) = by (same_name form.name other.name) refl
    where
      by : (b : Bool) → same_name form.name other.name ≡ b → MayBeThere other after
      by true same = inr (subst (λ (t : Table). IsThere t after) (sym (only same)) (there_made is bound low none))
      by false differ = inl (unused_stays other.name differ own free)

  all_grow : (forms : List Table) → IsForm form → are_bound schema ≡ true → next_tree schema < 65536 → table_of schema form.name ≡ None
      → AllByRecursion (λ other. same_name form.name other.name ≡ true → other ≡ form) forms → AllByRecursion (λ (other : Table). own_names other.name ≡ false) forms
      → AllByRecursion (λ other. MayBeThere other schema) forms → AllByRecursion (λ other. MayBeThere other after) forms
  all_grow [] is bound low none only own may = tt
  all_grow (other ∷ forms) is bound low none only own may = (may_grow other is bound low none only.0 own.0 may.0, all_grow forms is bound low none only.1 own.1 may.1)

  bound_grows : are_bound schema ≡ true → are_bound after ≡ true
  bound_grows bound =
      let news = automatics last 0 (next_tree schema + 1) form.uniques in
      let more : next_tree schema < next_tree after = table_below after last (has_right schema.tables (last ∷ []) last (inl refl)) in
      test_from (λ (i : Index). nat_lt i.table (next_tree after)) (schema.indexes ++ news) (λ i h. lt-ltb i.table (next_tree after) (elim (has_either schema.indexes news i h) [
        | inl old ↦ let low : i.table < next_tree schema = ltb-true i.table (next_tree schema) (test_has (λ (i : Index). nat_lt i.table (next_tree schema)) schema.indexes i bound old) in omega (arith, low, more)
        | inr new ↦ let same : i.table ≡ next_tree schema = automatic_table last 0 (next_tree schema + 1) form.uniques i new in omega (arith, same, more)
      ]))

  apart_grow : CanServe schema → (t : Table) → Has after.tables t → table_in after t.tree ≡ Some t
  apart_grow serves t h = elim (has_either schema.tables (last ∷ []) t h) [
    | inl old ↦ find_left (λ (u : Table). u.tree == t.tree) schema.tables (last ∷ []) t (all_has (λ (u : Table). table_in schema u.tree ≡ Some u) schema.tables t serves.apart old)
    | inr new ↦ elim new [
      | inl same ↦ subst (λ (u : Table). table_in after u.tree ≡ Some u) (sym same) last_apart
      | inr none ↦ absurd none
    ]
  ]
    where
      last_apart : table_in after (next_tree schema) ≡ Some last
      last_apart =
          find_right (λ (t : Table). t.tree == next_tree schema) schema.tables (last ∷ [])
          (find_none (λ (t : Table). t.tree == next_tree schema) schema.tables (λ t h. ne_eqb t.tree (next_tree schema) (λ same. let below : t.tree < next_tree schema = table_below schema t h in absurd (omega (arith, same, below)))))
          ∙ ap (λ b. cond b (Some last) None) (eq-eqb (next_tree schema) (next_tree schema) refl)

  serves_grow : IsForm form → next_tree schema < 65536 → table_of schema form.name ≡ None → CanServe schema → CanServe after
  serves_grow is low none serves = record {
    tables = all_grow desk_tables is serves.bound low none is.only (is.apart (next_tree schema)) serves.tables;
    unreferred = any_past (λ (t : Table). list_any (λ (r : Reference). is_desk_name r.parent) t.references) schema.tables last is.alone ∙ serves.unreferred;
    apart = all_from (λ (t : Table). table_in after t.tree ≡ Some t) after.tables (apart_grow serves);
    bound = bound_grows serves.bound;
    whole = still_whole schema form is.uncounted serves.whole;
  }

-- one of the five was provided: it is there, and all else stands
record Grown (form : Table) (old new : Database) : Type 0 where
  serves : CanServe new.schema
  there : IsThere form new.schema
  stays : (other : Table) → IsThere other old.schema → IsThere other new.schema
  rows : (name : List ℕ) → rows_named new name ≡ rows_named old name
  flags : (other : Table) → same_name form.name other.name ≡ false → has_table new.schema.tables other.name ≡ has_table old.schema.tables other.name
  sound : IsDatabase old → IsDatabase new

module _ (form : Table) (is : IsForm form) (old new : Database) (serves : CanServe old.schema) where
  no_table_of : has_table old.schema.tables form.name ≡ false → table_of old.schema form.name ≡ None
  no_table_of none = by (table_of old.schema form.name) refl
    where
      by : (o : Option Table) → table_of old.schema form.name ≡ o → table_of old.schema form.name ≡ None
      by None e = e
      by (Some t) e = absurd (let f = sym (ap is_some e) ∙ found_any (λ (t : Table). same_name t.name form.name) old.schema.tables ∙ none in cc)

  rows_made : HasMadeTable form old new → (name : List ℕ) → rows_named new name ≡ rows_named old name
  rows_made made name = ap (λ (s : Schema). rows_at new.trees (table_of s name)) made.schema ∙ by (table_of old.schema name) refl
    where
      new_rows : (b : Bool) → rows_at new.trees (cond b (Some (placed form (next_tree old.schema))) None) ≡ []
      new_rows true = made.empty
      new_rows false = refl

      by : (o : Option Table) → table_of old.schema name ≡ o → rows_at new.trees (table_of (created old.schema form) name) ≡ rows_at old.trees (table_of old.schema name)
      by (Some t) e =
          ap (rows_at new.trees) (find_left (λ (t : Table). same_name t.name name) old.schema.tables (placed form (next_tree old.schema) ∷ []) t e)
          ∙ all_has (λ (t : Table). new.trees t.tree ≡ old.trees t.tree) old.schema.tables t made.others (has_found (λ (t : Table). same_name t.name name) old.schema.tables t e).0
          ∙ sym (ap (rows_at old.trees) e)
      by None e =
          ap (rows_at new.trees) (find_right (λ (t : Table). same_name t.name name) old.schema.tables (placed form (next_tree old.schema) ∷ []) e)
          ∙ new_rows (same_name form.name name) ∙ sym (ap (rows_at old.trees) e)

  made_grown : table_of old.schema form.name ≡ None → HasMadeTable form old new → Grown form old new
  made_grown none made =
      let same = sym made.schema in
      record {
        serves = subst CanServe same (serves_grow old.schema form is made.low none serves);
        there = subst (IsThere form) same (there_made old.schema form is serves.bound made.low none);
        stays = λ other h. subst (IsThere other) same (there_stays old.schema form other h);
        rows = rows_made made;
        flags = λ other differ. ap (λ (s : Schema). has_table s.tables other.name) made.schema ∙ any_past (λ (t : Table). same_name t.name other.name) old.schema.tables (placed form (next_tree old.schema)) differ;
        sound = λ _. made.sound;
      }

  kept_grown : IsThere form old.schema → new ≡ old → Grown form old new
  kept_grown there same = subst (λ db. Grown form old db) (sym same) (record { serves = serves; there = there; stays = λ other h. h; rows = λ name. refl; flags = λ other differ. refl; sound = λ is. is })

  grown : MayBeThere form old.schema → (is_there : Bool) → has_table old.schema.tables form.name ≡ is_there → Provides is_there form old new → Grown form old new
  grown may false none made = made_grown (no_table_of none) (made.made refl serves.whole)
  grown (inr there) true is made = kept_grown there (made.stays refl)
  grown (inl free) true is made = absurd (let none = unused_table old.schema form.name free in let f = sym (ap is_some none) ∙ found_any (λ (t : Table). same_name t.name form.name) old.schema.tables ∙ is in cc)

-- the five forms
sets_form : IsForm sets_table
unfolding same_name
sets_form = record {
  same = refl;
  own = λ n. rw (eq-eqb n n refl);
  alone = refl;
  uncounted = refl;
  only = (λ e. refl, (λ e. absurd (let f : false ≡ true = e in cc), (λ e. absurd (let f : false ≡ true = e in cc), (λ e. absurd (let f : false ≡ true = e in cc), (λ e. absurd (let f : false ≡ true = e in cc), tt)))));
  apart = λ n. (refl, (refl, (refl, (refl, (refl, tt)))));
}

replies_form : IsForm replies_table
unfolding same_name
replies_form = record {
  same = refl;
  own = λ n. rw (eq-eqb n n refl);
  alone = refl;
  uncounted = refl;
  only = (λ e. absurd (let f : false ≡ true = e in cc), (λ e. refl, (λ e. absurd (let f : false ≡ true = e in cc), (λ e. absurd (let f : false ≡ true = e in cc), (λ e. absurd (let f : false ≡ true = e in cc), tt)))));
  apart = λ n. (refl, (refl, (refl, (refl, (refl, tt)))));
}

decks_form : IsForm decks_table
unfolding same_name
decks_form = record {
  same = refl;
  own = λ n. refl;
  alone = refl;
  uncounted = refl;
  only = (λ e. absurd (let f : false ≡ true = e in cc), (λ e. absurd (let f : false ≡ true = e in cc), (λ e. refl, (λ e. absurd (let f : false ≡ true = e in cc), (λ e. absurd (let f : false ≡ true = e in cc), tt)))));
  apart = λ n. (refl, (refl, (refl, (refl, (refl, tt)))));
}

statuses_form : IsForm statuses_table
unfolding same_name
statuses_form = record {
  same = refl;
  own = λ n. rw (eq-eqb n n refl);
  alone = refl;
  uncounted = refl;
  only = (λ e. absurd (let f : false ≡ true = e in cc), (λ e. absurd (let f : false ≡ true = e in cc), (λ e. absurd (let f : false ≡ true = e in cc), (λ e. refl, (λ e. absurd (let f : false ≡ true = e in cc), tt)))));
  apart = λ n. (refl, (refl, (refl, (refl, (refl, tt)))));
}

floors_form : IsForm floors_table
unfolding same_name
floors_form = record {
  same = refl;
  own = λ n. rw (eq-eqb n n refl);
  alone = refl;
  uncounted = refl;
  only = (λ e. absurd (let f : false ≡ true = e in cc), (λ e. absurd (let f : false ≡ true = e in cc), (λ e. absurd (let f : false ≡ true = e in cc), (λ e. absurd (let f : false ≡ true = e in cc), (λ e. refl, tt)))));
  apart = λ n. (refl, (refl, (refl, (refl, (refl, tt)))));
}

-- each of the five that was missing was made
module _ (old new : Database) (serves : Serves old) (made : HasMade (present_in old.schema.tables) old new) where
  sets_grown : Grown sets_table old made.first.one
  sets_grown = grown sets_table sets_form old made.first.one serves.schema serves.schema.tables.0 (has_table old.schema.tables (codes "sets")) refl made.first.sets

  replies_grown : Grown replies_table made.first.one made.first.two
  unfolding same_name
  replies_grown =
      grown replies_table replies_form made.first.one made.first.two sets_grown.serves sets_grown.serves.tables.1.0 (has_table old.schema.tables (codes "replies")) (sets_grown.flags replies_table refl) made.first.replies

  decks_grown : Grown decks_table made.first.two made.mid
  unfolding same_name
  decks_grown =
      grown decks_table decks_form made.first.two made.mid replies_grown.serves replies_grown.serves.tables.1.1.0 (has_table old.schema.tables (codes "decks"))
      (replies_grown.flags decks_table refl ∙ sets_grown.flags decks_table refl) made.first.decks

  statuses_grown : Grown statuses_table made.mid made.last.one
  unfolding same_name
  statuses_grown =
      grown statuses_table statuses_form made.mid made.last.one decks_grown.serves decks_grown.serves.tables.1.1.1.0 (has_table old.schema.tables (codes "statuses"))
      (decks_grown.flags statuses_table refl ∙ replies_grown.flags statuses_table refl ∙ sets_grown.flags statuses_table refl) made.last.statuses

  floors_grown : Grown floors_table made.last.one new
  unfolding same_name
  floors_grown =
      grown floors_table floors_form made.last.one new statuses_grown.serves statuses_grown.serves.tables.1.1.1.1.0 (has_table old.schema.tables (codes "floors"))
      (statuses_grown.flags floors_table refl ∙ decks_grown.flags floors_table refl ∙ replies_grown.flags floors_table refl ∙ sets_grown.flags floors_table refl) made.last.floors

  rows_kept : (name : List ℕ) → rows_named new name ≡ rows_named old name
  rows_kept name = floors_grown.rows name ∙ statuses_grown.rows name ∙ decks_grown.rows name ∙ replies_grown.rows name ∙ sets_grown.rows name

  has_rows : (form : Table) → IsThere form new.schema → IsKeyed (rows_named old form.name) → HasTable form new
  has_rows form there keyed = record { there = there; keyed = subst IsKeyed (sym (rows_kept form.name) ∙ rows_of_form form new there) keyed }

  -- then they are ready
  pub made_ready : IsReady new
  made_ready = record {
    sets = has_rows sets_table (floors_grown.stays sets_table (statuses_grown.stays sets_table (decks_grown.stays sets_table (replies_grown.stays sets_table sets_grown.there)))) serves.keyed.0;
    replies = has_rows replies_table (floors_grown.stays replies_table (statuses_grown.stays replies_table (decks_grown.stays replies_table replies_grown.there))) serves.keyed.1.0;
    decks = has_rows decks_table (floors_grown.stays decks_table (statuses_grown.stays decks_table decks_grown.there)) serves.keyed.1.1.0;
    statuses = has_rows statuses_table (floors_grown.stays statuses_table statuses_grown.there) serves.keyed.1.1.1.0;
    floors = has_rows floors_table floors_grown.there serves.keyed.1.1.1.1.0;
    serves = floors_grown.serves;
  }

  -- and the trees list the schema still
  pub made_sound : IsDatabase old → IsDatabase new
  made_sound is = floors_grown.sound (statuses_grown.sound (decks_grown.sound (replies_grown.sound (sets_grown.sound is))))

  -- and hold what they held
  pub made_same : tables_in new ≡ tables_in old
  made_same = λ i. record {
    sets = bodies (rows_kept (codes "sets") i);
    replies = bodies (rows_kept (codes "replies") i);
    decks = rows_kept (codes "decks") i;
    statuses = bodies (rows_kept (codes "statuses") i);
    floors = bodies (rows_kept (codes "floors") i);
  }

there_of : (form : Table) (schema : Schema) → MayBeThere form schema → has_table schema.tables form.name ≡ true → IsThere form schema
there_of form schema (inr there) is = there
there_of form schema (inl free) is = absurd (let none = unused_table schema form.name free in let f = sym (ap is_some none) ∙ found_any (λ (t : Table). same_name t.name form.name) schema.tables ∙ is in cc)

table_there : (form : Table) (db : Database) → MayBeThere form db.schema → IsKeyed (rows_named db form.name) → has_table db.schema.tables form.name ≡ true → HasTable form db
table_there form db may keyed is =
    let there = there_of form db.schema may is in
    record { there = there; keyed = subst IsKeyed (rows_of_form form db there) keyed }

-- where the five are there, they are ready
pub all_ready : (db : Database) → Serves db → present_in db.schema.tables ≡ all_there → IsReady db
all_ready db serves all = record {
  sets = table_there sets_table db serves.schema.tables.0 serves.keyed.0 (ap (λ (p : Present). p.sets) all);
  replies = table_there replies_table db serves.schema.tables.1.0 serves.keyed.1.0 (ap (λ (p : Present). p.replies) all);
  decks = table_there decks_table db serves.schema.tables.1.1.0 serves.keyed.1.1.0 (ap (λ (p : Present). p.decks) all);
  statuses = table_there statuses_table db serves.schema.tables.1.1.1.0 serves.keyed.1.1.1.0 (ap (λ (p : Present). p.statuses) all);
  floors = table_there floors_table db serves.schema.tables.1.1.1.1.0 serves.keyed.1.1.1.1.0 (ap (λ (p : Present). p.floors) all);
  serves = serves.schema;
}

pub ready_serves : (db : Database) → IsReady db → Serves db
ready_serves db ready = record {
  schema = ready.serves;
  keyed = (
    subst IsKeyed (sym (rows_of_form sets_table db ready.sets.there)) ready.sets.keyed,
    (
      subst IsKeyed (sym (rows_of_form replies_table db ready.replies.there)) ready.replies.keyed,
      (
        subst IsKeyed (sym (rows_of_form decks_table db ready.decks.there)) ready.decks.keyed,
        (
          subst IsKeyed (sym (rows_of_form statuses_table db ready.statuses.there)) ready.statuses.keyed,
          (subst IsKeyed (sym (rows_of_form floors_table db ready.floors.there)) ready.floors.keyed, tt),
        ),
      ),
    ),
  );
}

pub rows_missing : (db : Database) (name : List ℕ) → has_table db.schema.tables name ≡ false → rows_named db name ≡ []
rows_missing db name none = by (table_of db.schema name) refl
  where
    by : (o : Option Table) → table_of db.schema name ≡ o → rows_at db.trees (table_of db.schema name) ≡ []
    by None e = ap (rows_at db.trees) e
    by (Some t) e = absurd (let f = sym (ap is_some e) ∙ found_any (λ (t : Table). same_name t.name name) db.schema.tables ∙ none in cc)

-- where none of them is there, they have no rows
pub none_without : (db : Database) → present_in db.schema.tables ≡ none_there → tables_in db ≡ empty_tables
none_without db none = λ i. record {
  sets = bodies (rows_missing db (codes "sets") (ap (λ (p : Present). p.sets) none) i);
  replies = bodies (rows_missing db (codes "replies") (ap (λ (p : Present). p.replies) none) i);
  decks = rows_missing db (codes "decks") (ap (λ (p : Present). p.decks) none) i;
  statuses = bodies (rows_missing db (codes "statuses") (ap (λ (p : Present). p.statuses) none) i);
  floors = bodies (rows_missing db (codes "floors") (ap (λ (p : Present). p.floors) none) i);
}

may_read : (schema : Schema) (forms : List Table) → AllByRecursion (λ form. MayBeThere form schema) forms → AllByRecursion (λ form. MayHaveForm form schema) forms
may_read schema [] may = tt
may_read schema (form ∷ forms) may = (by may.0, may_read schema forms may.1)
  where
    by : MayBeThere form schema → MayHaveForm form schema
    by (inl free) = inl free
    by (inr there) = inr (record { tree = there.tree; named = there.named; low = there.low })

-- what can be written can be read
pub serves_legible : (db : Database) → Serves db → IsLegible db
serves_legible db serves = record { schema = record { tables = may_read db.schema desk_tables serves.schema.tables; apart = serves.schema.apart }; keyed = serves.keyed }

-- a table that is there has the form, and its numbers rise
pub form_there : (form : Table) (db : Database) → MayHaveForm form db.schema → IsKeyed (rows_named db form.name) → has_table db.schema.tables form.name ≡ true
    → (h : HasForm form db.schema) × IsKeyed (db.trees h.tree)
form_there form db (inr there) keyed is = (there, subst IsKeyed (ap (rows_at db.trees) there.named) keyed)
form_there form db (inl free) keyed is =
    absurd (let none = unused_table db.schema form.name free in let f = sym (ap is_some none) ∙ found_any (λ (t : Table). same_name t.name form.name) db.schema.tables ∙ is in cc)

-- a table that was provided leaves a database, of any schema
provided_sound : (form : Table) (is_there : Bool) (old new : Database) → form.is_counted ≡ false → Provides is_there form old new → lacks_sequence old.schema ≡ false
    → (lacks_sequence new.schema ≡ false) × (IsDatabase old → IsDatabase new)
provided_sound form true old new never made whole = subst (λ db. (lacks_sequence db.schema ≡ false) × (IsDatabase old → IsDatabase db)) (sym (made.stays refl)) (whole, λ is. is)
provided_sound form false old new never made whole =
    let it = made.made refl whole in
    (ap lacks_sequence it.schema ∙ still_whole old.schema form never whole, λ _. it.sound)

-- so do the five
pub all_sound : (there : Present) (old new : Database) → HasMade there old new → lacks_sequence old.schema ≡ false → IsDatabase old → IsDatabase new
all_sound there old new made whole is =
    let a = provided_sound sets_table there.sets old made.first.one refl made.first.sets whole in
    let b = provided_sound replies_table there.replies made.first.one made.first.two refl made.first.replies a.0 in
    let c = provided_sound decks_table there.decks made.first.two made.mid refl made.first.decks b.0 in
    let d = provided_sound statuses_table there.statuses made.mid made.last.one refl made.last.statuses c.0 in
    let e = provided_sound floors_table there.floors made.last.one new refl made.last.floors d.0 in
    e.1 (d.1 (c.1 (b.1 (a.1 is))))
