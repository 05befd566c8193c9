-- What is told of a database before and after a transaction.
use Rattle.std.proofs.Common.{◌≡◌, ◌≤◌, ◌&&◌, inl, inr, not, nat_lt, ltb-true, lt-ltb, ℕ, Bool, true, false, cond, List}
use Rattle.std.proofs.Common.{[], ◌∷◌, filter, Ok, Err, Result, OnOk, OnErr, Some, None, Option, IsTrue, refl, sym, ap}
use Rattle.std.proofs.Common.{subst, ◌∙◌, arith, Ordering, Less, Equal, Greater, is_lt}
use Rattle.std.specs.Coded.{Coded, coded×, coded_list, coded_option, coded_ℕ}
use Rattle.std.specs.Prelude.{IfSome, is_some}
use Rattle.std.specs.List.{AllByRecursion, list_all}
use Rattle.sqlite.specs.Effect.{Database, IsDatabase}
use Rattle.sqlite.specs.Order.{Row}
use Rattle.sqlite.specs.Schema.{Schema}
use Rattle.sqlite.specs.State.{State, HasCleanDisk}
use Rattle.sqlite.specs.Table.{Table}
use Rattle.sqlite.specs.Tree.{Trees}
use Rattle.sqlite.specs.declared.error.Error.{Error}
use Rattle.sqlite_schema.specs.contracts.schema.Table as the_table
use Rattle.sqlite_trees.proofs.Doubt.{clean_of, no_doubt}
use Rattle.sqlite_trees.specs.Tree.{rowid}
use Rattle.sqlite_trees.specs.View.{doubt}
use Rattle.sqlite_value.specs.Order.{value_cmp}
use Rattle.sms_keeper.specs.Tables.{AreSame, is_named, is_reply_of, is_floor_of, with_change}
use Rattle.sms_keeper.specs.Told.{Applies, Stays}
use Rattle.sms_keeper.specs.declared.change.Change.{Change}
use Rattle.sms_keeper.specs.declared.rows.Rows.{Rows}
use Rattle.keeper_statements.specs.Found.{CanServe, MayBeThere, keys_of, keys_on, placed, table_in, table_of}
use Rattle.keeper_statements.specs.Presence.{all_there, present_in}
use Rattle.keeper_statements.specs.Schema.{desk_tables}
use Rattle.keeper_statements.specs.Tables.{IsKeyed, Serves, rows_named}
use Rattle.keeper_statements.proofs.GrowLemmas.{all_ready, ready_serves, unused_table}
use Rattle.sms_sqlite.specs.Same.{is_same}
use Rattle.sms_sqlite.specs.Told.{can_serve, can_tell, is_apart, is_formed, is_keyed, is_whole, tables_of, is_shown}
use Rattle.sms_sqlite.specs.Told.{told_of, IsReadable}
use Rattle.sms_sqlite.specs.Values.{rows_in}
use Rattle.sms_sqlite.specs.Writing.{Holds, AreAlike, HasRows, IsCommitted, with_trees}
use Rattle.sms_sqlite.proofs.SameLemmas.{and_parts, and_true, same_is, same_self}

less_is : (o : Ordering) → is_lt o ≡ true → o ≡ Less
less_is Less e = refl
less_is Equal e = absurd cc
less_is Greater e = absurd cc

all_less : (r : Row) (rows : List Row) → list_all (λ x. is_lt (value_cmp (rowid r) (rowid x))) rows ≡ true → AllByRecursion (λ x. value_cmp (rowid r) (rowid x) ≡ Less) rows
all_less r [] e = tt
all_less r (x ∷ rows) e = let p = and_parts _ _ e in (less_is _ p.0, all_less r rows p.1)

less_all : (r : Row) (rows : List Row) → AllByRecursion (λ x. value_cmp (rowid r) (rowid x) ≡ Less) rows → list_all (λ x. is_lt (value_cmp (rowid r) (rowid x))) rows ≡ true
less_all r [] all = refl
less_all r (x ∷ rows) all = and_true _ _ (ap is_lt all.0) (less_all r rows all.1)

keyed_is : (rows : List Row) → is_keyed rows ≡ true → IsKeyed rows
keyed_is [] e = (tt, tt)
keyed_is (r ∷ rows) e =
    let p = and_parts _ _ e in
    let q = and_parts _ _ p.1 in
    let more = keyed_is rows q.1 in
    ((all_less r rows q.0, more.0), (p.0, more.1))

keyed_so : (rows : List Row) → IsKeyed rows → is_keyed rows ≡ true
keyed_so [] keyed = refl
keyed_so (r ∷ rows) keyed = and_true _ _ keyed.1.0 (and_true _ _ (less_all r rows keyed.0.0) (keyed_so rows (keyed.0.1, keyed.1.1)))

same_so : {A : Type 0} (coded : Coded A) (x y : A) → x ≡ y → is_same coded x y ≡ true
same_so coded x y same = subst (λ z. is_same coded x z ≡ true) same (same_self coded x)

not_true : (b : Bool) → not b ≡ true → b ≡ false
not_true true e = absurd cc
not_true false e = refl

module _ (schema : Schema) (form : Table) where
  may_is : (o : Option Table) → table_of schema form.name ≡ o → is_formed form schema o ≡ true → MayBeThere form schema
  may_is None named is = inl (not_true _ is)
  may_is (Some t) named is =
      let p = and_parts _ _ is in
      let r = and_parts _ _ p.1 in
      inr (record {
        tree = t.tree;
        named = named ∙ ap Some (same_is the_table.the_row.coded t (placed form t.tree) p.0);
        low = ltb-true t.tree 65536 r.0;
        keys = same_is (coded_list (coded× (coded_list coded_ℕ) coded_ℕ)) (keys_on schema (placed form t.tree)) (keys_of form) r.1;
      })

  may_so : MayBeThere form schema → is_formed form schema (table_of schema form.name) ≡ true
  may_so (inl free) = ap (is_formed form schema) (unused_table schema form.name free) ∙ ap not free
  may_so (inr there) =
      ap (is_formed form schema) there.named
      ∙ and_true _ _ (same_self the_table.the_row.coded (placed form there.tree))
      (and_true _ _ (lt-ltb there.tree 65536 there.low) (same_so (coded_list (coded× (coded_list coded_ℕ) coded_ℕ)) (keys_on schema (placed form there.tree)) (keys_of form) there.keys))

all_is : (schema : Schema) (forms : List Table) → list_all (λ form. is_formed form schema (table_of schema form.name)) forms ≡ true → AllByRecursion (λ form. MayBeThere form schema) forms
all_is schema [] e = tt
all_is schema (form ∷ forms) e = let p = and_parts _ _ e in (may_is schema form (table_of schema form.name) refl p.0, all_is schema forms p.1)

all_so : (schema : Schema) (forms : List Table) → AllByRecursion (λ form. MayBeThere form schema) forms → list_all (λ form. is_formed form schema (table_of schema form.name)) forms ≡ true
all_so schema [] all = refl
all_so schema (form ∷ forms) all = and_true _ _ (may_so schema form all.0) (all_so schema forms all.1)

rows_keyed : (db : Database) (forms : List Table) → list_all (λ form. is_keyed (rows_named db form.name)) forms ≡ true → AllByRecursion (λ form. IsKeyed (rows_named db form.name)) forms
rows_keyed db [] e = tt
rows_keyed db (form ∷ forms) e = let p = and_parts _ _ e in (keyed_is (rows_named db form.name) p.0, rows_keyed db forms p.1)

keyed_rows : (db : Database) (forms : List Table) → AllByRecursion (λ form. IsKeyed (rows_named db form.name)) forms → list_all (λ form. is_keyed (rows_named db form.name)) forms ≡ true
keyed_rows db [] all = refl
keyed_rows db (form ∷ forms) all = and_true _ _ (keyed_so (rows_named db form.name) all.0) (keyed_rows db forms all.1)

apart_is : (schema : Schema) (tables : List Table) → list_all (is_apart schema) tables ≡ true → AllByRecursion (λ t. table_in schema t.tree ≡ Some t) tables
apart_is schema [] e = tt
apart_is schema (t ∷ tables) e = let p = and_parts _ _ e in (same_is (coded_option the_table.the_row.coded) (table_in schema t.tree) (Some t) p.0, apart_is schema tables p.1)

apart_so : (schema : Schema) (tables : List Table) → AllByRecursion (λ t. table_in schema t.tree ≡ Some t) tables → list_all (is_apart schema) tables ≡ true
apart_so schema [] all = refl
apart_so schema (t ∷ tables) all = and_true _ _ (same_so (coded_option the_table.the_row.coded) (table_in schema t.tree) (Some t) all.0) (apart_so schema tables all.1)

serves_is : (schema : Schema) → can_serve schema ≡ true → CanServe schema
serves_is schema e =
    let p = and_parts _ _ e in
    let q = and_parts _ _ p.1 in
    let r = and_parts _ _ q.1 in
    let t = and_parts _ _ r.1 in
    record { tables = all_is schema desk_tables p.0; unreferred = not_true _ q.0; apart = apart_is schema schema.tables r.0; bound = t.0; whole = not_true _ t.1 }

serves_so : (schema : Schema) → CanServe schema → can_serve schema ≡ true
serves_so schema serves =
    and_true _ _ (all_so schema desk_tables serves.tables) (and_true _ _ (ap not serves.unreferred)
    (and_true _ _ (apart_so schema schema.tables serves.apart) (and_true _ _ serves.bound (ap not serves.whole))))

pub whole_is : (db : Database) → is_whole db ≡ true → Serves db
whole_is db e = let p = and_parts _ _ e in record { schema = serves_is db.schema p.0; keyed = rows_keyed db desk_tables p.1 }

pub whole_so : (db : Database) → Serves db → is_whole db ≡ true
whole_so db serves = and_true _ _ (serves_so db.schema serves.schema) (keyed_rows db desk_tables serves.keyed)

pub tables_of_holds : (db : Database) (rows : Rows) → Holds db rows → tables_of db ≡ Some rows
tables_of_holds db rows holds = ap (λ b. cond b (rows_in db) None) (whole_so db (ready_serves db holds.ready)) ∙ holds.read

-- a database whose tables are told reads as them
pub record ReadsAs (db : Database) (rows : Rows) : Type 0 where
  pub serves : Serves db
  pub read : rows_in db ≡ Some rows

pub reads_of : (db : Database) (rows : Rows) → tables_of db ≡ Some rows → ReadsAs db rows
reads_of db rows e = by (is_whole db) refl
  where
    by : (b : Bool) → is_whole db ≡ b → ReadsAs db rows
    by true is = record { serves = whole_is db is; read = sym (ap (λ b. cond b (rows_in db) None) is) ∙ e }
    by false is = absurd (let f = sym (ap (λ b. cond b (rows_in db) None) is) ∙ e in cc)

-- where the five are there, it holds them
pub holds_of : (db : Database) (rows : Rows) → present_in db.schema.tables ≡ all_there → tables_of db ≡ Some rows → Holds db rows
holds_of db rows all told = let it = reads_of db rows told in record { ready = all_ready db it.serves all; read = it.read }

pub alike_same : (a b : Rows) → AreAlike a b → AreSame a b
alike_same a b p = record {
  sets = λ dsn. ap (filter (is_named dsn)) p.sets;
  replies = λ job number. ap (filter (is_reply_of job number)) p.replies;
  decks = p.decks;
  statuses = p.statuses;
  floors = λ job. ap (filter (is_floor_of job)) p.floors;
}

pub same_self_rows : (rows : Rows) → AreSame rows rows
same_self_rows rows = record { sets = λ dsn. refl; replies = λ job number. refl; decks = λ count. refl; statuses = λ target. refl; floors = λ job. refl }

there : {R : Type 0} (o : Option R) → is_some o ≡ true → (x : R) × (o ≡ Some x)
there None e = absurd cc
there (Some x) e = (x, refl)

some_there : {R : Type 0} (o : Option R) (x : R) → o ≡ Some x → is_some o ≡ true
some_there o x e = ap is_some e

-- the connection was open and clean before, if it is so now
pub shown_before : (old new : State) → doubt old.is_clean ≤ doubt new.is_clean → (HasCleanDisk new → IsTrue new.is_open → IsTrue old.is_open) → IsTrue (is_shown new)
    → IsTrue (is_shown old) × HasCleanDisk new × IsTrue new.is_open
shown_before old new clean opened shown =
    let p = and_parts new.is_open new.is_clean shown in
    let now : HasCleanDisk new = no_doubt new.is_clean p.1 in
    let before : doubt old.is_clean ≡ 0 = omega (arith, clean, now) in
    (and_true old.is_open old.is_clean (opened now p.0) (clean_of old.is_clean before), now, p.0)

-- what was told before, if the connection is shown now
pub told_before : (base : Database) (old : State) → IsReadable base old → IsTrue (is_shown old) → IsTrue (can_tell base) → (rows : Rows) × (tables_of old.now ≡ Some rows) × (told_of base old ≡ Some rows)
told_before base old readable shown was_told =
    let it = there (tables_of old.now) (readable shown was_told) in
    (it.0, it.1, ap (λ b. cond b (tables_of old.now) None) (and_true _ _ shown was_told) ∙ it.1)

-- a claim on what is told, where it is shown
pub on_told : (base : Database) (new : State) (P : Rows → Type 0) → (IsTrue (is_shown new) → IsTrue (can_tell base) → (rows : Rows) × (tables_of new.now ≡ Some rows) × P rows) → IfSome (told_of base new) P
on_told base new P f = by (is_shown new && can_tell base) refl
  where
    by : (b : Bool) → (is_shown new && can_tell base) ≡ b → IfSome (told_of base new) P
    by true is =
        let p = and_parts (is_shown new) (can_tell base) is in
        let it = f p.0 p.1 in
        subst (λ o. IfSome o P) (sym (ap (λ b. cond b (tables_of new.now) None) is ∙ it.1)) it.2
    by false is = subst (λ o. IfSome o P) (sym (ap (λ b. cond b (tables_of new.now) None) is)) tt

module _ (base : Database) (old new : State) (readable : IsReadable base old) (clean : doubt old.is_clean ≤ doubt new.is_clean)
    (opened : HasCleanDisk new → IsTrue new.is_open → IsTrue old.is_open) where
  -- the new rows, where the transaction was committed
  committed_rows : {from : Database} (f : Rows → Rows) → (HasCleanDisk new → (rows : Rows) → tables_of old.now ≡ Some rows → IsCommitted from new (f rows)) → IsTrue (is_shown new) → IsTrue (can_tell base)
      → (before : Rows) × (after : Rows) × (told_of base old ≡ Some before) × (tables_of new.now ≡ Some after) × AreSame after (f before)
  committed_rows f made shown was_told =
      let was = shown_before old new clean opened shown in
      let it = told_before base old readable was.0 was_told in
      let done = made was.1 it.0 it.1 in
      (it.0, done.holds.found, it.2, tables_of_holds new.now done.holds.found done.holds.holds, alike_same _ _ done.holds.alike)

  pub told_ok : {from : Database} (f : Rows → Rows) → (HasCleanDisk new → (rows : Rows) → tables_of old.now ≡ Some rows → IsCommitted from new (f rows))
      → IfSome (told_of base new) (λ rows. (o : Rows) × (told_of base old ≡ Some o) × AreSame rows (f o))
  told_ok f made = on_told base new _ (λ shown was_told. let it = committed_rows f made shown was_told in (it.1, it.3, (it.0, it.2, it.4)))

  pub readable_ok : {from : Database} (f : Rows → Rows) → (HasCleanDisk new → (rows : Rows) → tables_of old.now ≡ Some rows → IsCommitted from new (f rows)) → IsReadable base new
  readable_ok f made shown was_told = let it = committed_rows f made shown was_told in some_there (tables_of new.now) it.1 it.3

  pub told_err : (HasCleanDisk new → IsTrue new.is_open → new.now ≡ old.now) → Stays (told_of base old) (told_of base new)
  told_err kept = on_told base new _ (λ shown was_told.
      let was = shown_before old new clean opened shown in
      let it = told_before base old readable was.0 was_told in
      (it.0, ap tables_of (kept was.1 was.2) ∙ it.1, (it.0, it.2, same_self_rows it.0)))

  pub readable_err : (HasCleanDisk new → IsTrue new.is_open → new.now ≡ old.now) → IsReadable base new
  readable_err kept shown was_told =
      let was = shown_before old new clean opened shown in
      let it = told_before base old readable was.0 was_told in
      some_there (tables_of new.now) it.0 (ap tables_of (kept was.1 was.2) ∙ it.1)

  -- while the store is open, a stop leaves the last commit alone
  pub told_alone : {from : Database} (f : Rows → Rows) → (HasCleanDisk new → (rows : Rows) → tables_of old.now ≡ Some rows → IsCommitted from new (f rows))
      → (IsTrue new.is_open → (db : Trees) → new.may_leave db → db ≡ new.committed.trees) → IfSome (told_of base new) (λ rows. (db : Trees) → new.may_leave db → HasRows new.now (with_trees new.now db) rows)
  told_alone f made settled = on_told base new _ (λ shown was_told.
      let was = shown_before old new clean opened shown in
      let it = told_before base old readable was.0 was_told in
      let done = made was.1 it.0 it.1 in
      let found = done.holds.found in (
        found,
        tables_of_holds new.now found done.holds.holds,
        λ db left. record {
          found = found;
          read = ap (λ (t : Trees). tables_of (with_trees new.now t)) (settled was.2 db left ∙ ap (λ (d : Database). d.trees) done.committed) ∙ tables_of_holds new.now found done.holds.holds;
          same = same_self_rows found;
          sound = subst (λ (t : Trees). IsDatabase new.now → IsDatabase (with_trees new.now t)) (sym (settled was.2 db left ∙ ap (λ (d : Database). d.trees) done.committed)) (λ is. is);
        },
      ))

-- by the answer
pub applied_by : {X : Type 0} (from : Database) (base : Database) (old new : State) (change : Change) (r : Result X Error) → IsReadable base old → doubt old.is_clean ≤ doubt new.is_clean
    → (HasCleanDisk new → IsTrue new.is_open → IsTrue old.is_open)
    → (HasCleanDisk new → (rows : Rows) → tables_of old.now ≡ Some rows → OnOk r (IsCommitted from new (with_change rows change))) → OnOk r (Applies change (told_of base old) (told_of base new))
applied_by from base old new change (Ok x) readable clean opened made = told_ok base old new readable clean opened (λ rows. with_change rows change) made
applied_by from base old new change (Err e) readable clean opened made = tt

pub stays_by : {X : Type 0} (base : Database) (old new : State) (r : Result X Error) → IsReadable base old → doubt old.is_clean ≤ doubt new.is_clean
    → (HasCleanDisk new → IsTrue new.is_open → IsTrue old.is_open) → (HasCleanDisk new → IsTrue new.is_open → OnErr r (new.now ≡ old.now)) → OnErr r (Stays (told_of base old) (told_of base new))
stays_by base old new (Ok x) readable clean opened kept = tt
stays_by base old new (Err e) readable clean opened kept = told_err base old new readable clean opened kept

pub readable_by : {X : Type 0} (from : Database) (base : Database) (old new : State) (f : Rows → Rows) (r : Result X Error) → IsReadable base old → doubt old.is_clean ≤ doubt new.is_clean
    → (HasCleanDisk new → IsTrue new.is_open → IsTrue old.is_open)
    → (HasCleanDisk new → (rows : Rows) → tables_of old.now ≡ Some rows → OnOk r (IsCommitted from new (f rows)))
    → (HasCleanDisk new → IsTrue new.is_open → OnErr r (new.now ≡ old.now)) → IsReadable base new
readable_by from base old new f (Ok x) readable clean opened made kept = readable_ok base old new readable clean opened f made
readable_by from base old new f (Err e) readable clean opened made kept = readable_err base old new readable clean opened kept

pub alone_by : {X : Type 0} (from : Database) (base : Database) (old new : State) (f : Rows → Rows) (r : Result X Error) → IsReadable base old → doubt old.is_clean ≤ doubt new.is_clean
    → (HasCleanDisk new → IsTrue new.is_open → IsTrue old.is_open)
    → (HasCleanDisk new → (rows : Rows) → tables_of old.now ≡ Some rows → OnOk r (IsCommitted from new (f rows)))
    → (IsTrue new.is_open → (db : Trees) → new.may_leave db → db ≡ new.committed.trees) → OnOk r (IfSome (told_of base new) (λ rows. (db : Trees) → new.may_leave db → HasRows new.now (with_trees new.now db) rows))
alone_by from base old new f (Ok x) readable clean opened made settled = told_alone base old new readable clean opened f made settled
alone_by from base old new f (Err e) readable clean opened made settled = tt

-- the making of the tables leaves what is told
pub made_stays : {X : Type 0} (from : Database) (base : Database) (old new : State) (r : Result X Error) → IsReadable base old → doubt old.is_clean ≤ doubt new.is_clean
    → (HasCleanDisk new → IsTrue new.is_open → IsTrue old.is_open)
    → (HasCleanDisk new → (rows : Rows) → tables_of old.now ≡ Some rows → OnOk r (IsCommitted from new rows))
    → (HasCleanDisk new → IsTrue new.is_open → OnErr r (new.now ≡ old.now)) → Stays (told_of base old) (told_of base new)
made_stays from base old new (Ok x) readable clean opened made kept = told_ok base old new readable clean opened (λ rows. rows) made
made_stays from base old new (Err e) readable clean opened made kept = told_err base old new readable clean opened kept
