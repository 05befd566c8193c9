-- What a reading of the tables says of what is told.
use Rattle.std.proofs.Common.{◌≡◌, ◌≤◌, ◌&&◌, ℕ, suc, pos, Bool, true, false, cond, List, [], ◌∷◌, filter, Ok, Err}
use Rattle.std.proofs.Common.{Result, OnOk, OnErr, Some, None, Option, IsTrue, Ordering, is_lt, nat_cmp, refl, sym, ap}
use Rattle.std.proofs.Common.{ap₂, subst, ◌∙◌, arith, IsSorted}
use Rattle.std.specs.Prelude.{IfErr, IfOk, IfSome, is_some, option_map}
use Rattle.std.specs.Option.{option_or}
use Rattle.std.specs.Ordering.{ordering_then}
use Rattle.std.proofs.lemmas.Bool.Decides.{nat_tests}
use Rattle.std.proofs.lemmas.Int.{ints}
use Rattle.sqlite.specs.Effect.{Database}
use Rattle.sqlite.specs.Order.{Row}
use Rattle.sqlite.specs.State.{State, HasCleanDisk}
use Rattle.sqlite.specs.declared.types.Value.TheVariants.{Int, Text}
use Rattle.sqlite_trees.specs.View.{doubt}
use Rattle.sqlite_value.proofs.OrderLemmas.{value_cmp-Int, value_cmp-Text}
use Rattle.sqlite_value.specs.Order.{column, value_cmp}
use Rattle.sms_construct.specs.declared.data_set.DataSet.{DataSet}
use Rattle.sms_keeper.proofs.SortLemmas.{count_known, count_total, job_known, job_total, name_known, name_total}
use Rattle.sms_keeper.proofs.SortLemmas.{request_known, request_total, status_total, target_known}
use Rattle.sms_keeper.specs.Loading.{AreLoaded, SameDamage, StaysDamaged, by_count, by_job, by_name, by_request}
use Rattle.sms_keeper.specs.Loading.{by_target, target_name, target_rank, text_cmp}
use Rattle.sms_keeper.specs.Tables.{no_rows, is_deck, is_floor_of, is_named, is_reply_of, is_status_of}
use Rattle.sms_keeper.specs.declared.deck_row.DeckRow.{DeckRow}
use Rattle.sms_keeper.specs.declared.floor.Floor.{Floor}
use Rattle.sms_keeper.specs.declared.kept_row.KeptRow.{KeptRow}
use Rattle.sms_keeper.specs.declared.rows.Rows.{Rows}
use Rattle.sms_keeper.specs.declared.status_row.StatusRow.{StatusRow}
use Rattle.sms_keeper.specs.declared.table.Table.{Table}
use Rattle.sms_keeper.specs.declared.table.Table.TheVariants.{Sets, Replies, Decks, Statuses, Floors}
use Rattle.keeper_statements.proofs.GrowLemmas.{made_ready, made_same, none_without, ready_serves}
use Rattle.keeper_statements.proofs.OrderLemmas.{order_found, order_sorted}
use Rattle.keeper_statements.specs.Order.{by_first, by_two, in_order, put_in}
use Rattle.keeper_statements.specs.Presence.{none_there, present_in}
use Rattle.keeper_statements.specs.Tables.{Serves, Tables, tables_in}
use Rattle.sms_sqlite.specs.Damage.{damage_in, first_unread, ordered, unread_in}
use Rattle.sms_sqlite.specs.Reading.{IsMadeReady, NamesFault, ReadsAll}
use Rattle.sms_sqlite.specs.Told.{IsReadable, damage_of, damage_seen, can_tell, is_shown, is_whole, tables_of, told_of}
use Rattle.sms_sqlite.specs.Values.{deck_in, each_in, floor_in, joined, reply_in, rows_of, set_in, status_in}
use Rattle.sms_sqlite.specs.declared.load_fault.LoadFault.{LoadFault}
use Rattle.sms_sqlite.specs.declared.load_fault.LoadFault.TheVariants as faults
use Rattle.sms_sqlite.proofs.ReadLemmas.{joins, some, some_is}
use Rattle.sms_sqlite.proofs.TablesLemmas.{AreRead, are_read}
use Rattle.sms_sqlite.proofs.ToldLemmas.{on_told, reads_of, shown_before, told_before, whole_is, whole_so}
use Rattle.sms_sqlite.proofs.ValueLemmas.{deck_numbered, floor_named, reply_numbered, set_named, status_keyed}

-- values are read in the order of their rows
module _ {B : Type 0} (read : Row → Option B) (key : Row → Row → Ordering) (cmp : B → B → Ordering)
    (agree : (r s : Row) (x y : B) → read r ≡ Some x → read s ≡ Some y → key r s ≡ cmp x y) where
  put_at : (r s : Row) (x y : B) (rows : List Row) (xs : List B) (b : Bool) → is_lt (key s r) ≡ b → is_lt (cmp y x) ≡ b → read r ≡ Some x → read s ≡ Some y → each_in read rows ≡ Some xs
      → each_in read (put_in key r rows) ≡ Some (put_in cmp x xs) → each_in read (put_in key r (s ∷ rows)) ≡ Some (put_in cmp x (y ∷ xs))
  put_at r s x y rows xs true p q one here all behind =
      ap (λ c. each_in read (cond c (s ∷ put_in key r rows) (r ∷ s ∷ rows))) p ∙ ap₂ joined here behind
      ∙ sym (ap (λ c. some (cond c (y ∷ put_in cmp x xs) (x ∷ y ∷ xs))) q)
  put_at r s x y rows xs false p q one here all behind =
      ap (λ c. each_in read (cond c (s ∷ put_in key r rows) (r ∷ s ∷ rows))) p ∙ ap₂ joined one (ap₂ joined here all)
      ∙ sym (ap (λ c. some (cond c (y ∷ put_in cmp x xs) (x ∷ y ∷ xs))) q)

  put_read : (r : Row) (x : B) (rows : List Row) (xs : List B) → read r ≡ Some x → each_in read rows ≡ Some xs → each_in read (put_in key r rows) ≡ Some (put_in cmp x xs)
  put_read r x [] xs one all = ap (λ (o : Option B). joined o (Some [])) one ∙ ap (λ (l : List B). some (put_in cmp x l)) (some_is [] xs all)
  put_read r x (s ∷ rows) xs one all =
      let p = joins (read s) (each_in read rows) xs all in
      subst (λ (l : List B). each_in read (put_in key r (s ∷ rows)) ≡ Some (put_in cmp x l)) (sym p.is)
      (put_at r s x p.first rows p.others (is_lt (key s r)) refl (ap is_lt (sym (agree s r p.first x p.here one))) one p.here p.there (put_read r x rows p.others one p.there))

  pub order_read : (rows : List Row) (xs : List B) → each_in read rows ≡ Some xs → each_in read (in_order key rows) ≡ Some (in_order cmp xs)
  order_read [] xs all = ap (λ (l : List B). some (in_order cmp l)) (some_is [] xs all)
  order_read (r ∷ rows) xs all =
      let p = joins (read r) (each_in read rows) xs all in
      subst (λ (l : List B). each_in read (in_order key (r ∷ rows)) ≡ Some (in_order cmp l)) (sym p.is)
      (put_read r p.first (in_order key rows) (in_order cmp p.others) p.here (order_read rows p.others p.there))

-- columns are ordered as the values that they hold

ints_compared : (a b : ℕ) → value_cmp (Int (pos a)) (Int (pos b)) ≡ nat_cmp a b
ints_compared a b = value_cmp-Int (pos a) (pos b) ∙ grind (arith, ints, nat_tests)

texts_at : (r s : Row) (at : ℕ) (a b : List ℕ) → column r at ≡ Text a → column s at ≡ Text b → value_cmp (column r at) (column s at) ≡ text_cmp a b
texts_at r s at a b p q = (λ i. value_cmp (p i) (q i)) ∙ value_cmp-Text a b

numbers_at : (r s : Row) (at a b : ℕ) → column r at ≡ Int (pos a) → column s at ≡ Int (pos b) → value_cmp (column r at) (column s at) ≡ nat_cmp a b
numbers_at r s at a b p q = (λ i. value_cmp (p i) (q i)) ∙ ints_compared a b

sets_agree : (r s : Row) (x y : DataSet) → set_in r ≡ Some x → set_in s ≡ Some y → by_first r s ≡ by_name x y
sets_agree r s x y p q = texts_at r s 0 x.dsn y.dsn (set_named r x p) (set_named s y q)

replies_agree : (r s : Row) (x y : KeptRow) → reply_in r ≡ Some x → reply_in s ≡ Some y → by_two r s ≡ by_request x y
replies_agree r s x y p q =
    let a = reply_numbered r x p in
    let b = reply_numbered s y q in
    λ i. ordering_then (texts_at r s 0 x.job y.job a.0 b.0 i) (numbers_at r s 1 x.number y.number a.1 b.1 i)

decks_agree : (r s : Row) (x y : DeckRow) → deck_in r ≡ Some x → deck_in s ≡ Some y → by_first r s ≡ by_count x y
decks_agree r s x y p q = numbers_at r s 0 x.count y.count (deck_numbered r x p) (deck_numbered s y q)

statuses_agree : (r s : Row) (x y : StatusRow) → status_in r ≡ Some x → status_in s ≡ Some y → by_two r s ≡ by_target x y
statuses_agree r s x y p q =
    let a = status_keyed r x p in
    let b = status_keyed s y q in
    let kinds = numbers_at r s 0 (target_rank x.target) (target_rank y.target) a.0 b.0 in
    let names = texts_at r s 1 (target_name x.target) (target_name y.target) a.1 b.1 in
    λ i. ordering_then (kinds i) (names i)

floors_agree : (r s : Row) (x y : Floor) → floor_in r ≡ Some x → floor_in s ≡ Some y → by_first r s ≡ by_job x y
floors_agree r s x y p q = texts_at r s 0 x.job y.job (floor_named r x p).0 (floor_named s y q).0

-- what the tables read as in the order of their keys
pub ordered_read : (t : Tables) (told : Rows) → AreRead t told
    → AreRead (ordered t) (record { sets = in_order by_name told.sets; replies = in_order by_request told.replies; decks = in_order by_count told.decks; statuses = in_order by_target told.statuses; floors = in_order by_job told.floors })
ordered_read t told a = record {
  sets = order_read set_in by_first by_name sets_agree t.sets told.sets a.sets;
  replies = order_read reply_in by_two by_request replies_agree t.replies told.replies a.replies;
  decks = order_read deck_in by_first by_count decks_agree t.decks told.decks a.decks;
  statuses = order_read status_in by_two by_target statuses_agree t.statuses told.statuses a.statuses;
  floors = order_read floor_in by_first by_job floors_agree t.floors told.floors a.floors;
}

-- the rows in the order of their keys have what is told under each key
loaded_tables : (t : Tables) (told rows : Rows) → rows_of t ≡ Some told → rows_of (ordered t) ≡ Some rows → AreLoaded told rows
loaded_tables t told rows e f =
    let a = ordered_read t told (are_read t told e) in
    let b = are_read (ordered t) rows f in
    let sets : rows.sets ≡ in_order by_name told.sets = some_is _ _ (sym b.sets ∙ a.sets) in
    let replies : rows.replies ≡ in_order by_request told.replies = some_is _ _ (sym b.replies ∙ a.replies) in
    let decks : rows.decks ≡ in_order by_count told.decks = some_is _ _ (sym b.decks ∙ a.decks) in
    let statuses : rows.statuses ≡ in_order by_target told.statuses = some_is _ _ (sym b.statuses ∙ a.statuses) in
    let floors : rows.floors ≡ in_order by_job told.floors = some_is _ _ (sym b.floors ∙ a.floors) in
    record {
      same = record {
        sets = λ dsn. ap (filter (is_named dsn)) sets ∙ order_found by_name (is_named dsn) (name_known dsn) told.sets;
        replies = λ job number. ap (filter (is_reply_of job number)) replies ∙ order_found by_request (is_reply_of job number) (request_known job number) told.replies;
        decks = λ count. ap (filter (is_deck count)) decks ∙ order_found by_count (is_deck count) (count_known count) told.decks;
        statuses = λ target. ap (filter (is_status_of target)) statuses ∙ order_found by_target (is_status_of target) (target_known target) told.statuses;
        floors = λ job. ap (filter (is_floor_of job)) floors ∙ order_found by_job (is_floor_of job) (job_known job) told.floors;
      };
      ordered = record {
        sets = subst (IsSorted by_name) (sym sets) (order_sorted by_name name_total told.sets);
        replies = subst (IsSorted by_request) (sym replies) (order_sorted by_request request_total told.replies);
        decks = subst (IsSorted by_count) (sym decks) (order_sorted by_count count_total told.decks);
        statuses = subst (IsSorted by_target) (sym statuses) (order_sorted by_target status_total told.statuses);
        floors = subst (IsSorted by_job) (sym floors) (order_sorted by_job job_total told.floors);
      };
    }

-- where each row stands for something, none is damaged
each_whole : {B : Type 0} (read : Row → Option B) (rows : List Row) (xs : List B) → each_in read rows ≡ Some xs → first_unread read rows ≡ None
each_whole read [] xs all = refl
each_whole read (r ∷ rows) xs all =
    let p = joins (read r) (each_in read rows) xs all in
    ap (λ b. cond b (option_map suc (first_unread read rows)) (Some 0)) (ap is_some p.here) ∙ ap (option_map suc) (each_whole read rows p.others p.there)

pub whole_in : {B : Type 0} (table : Table) (read : Row → Option B) (rows : List Row) (xs : List B) → each_in read rows ≡ Some xs → unread_in table read rows ≡ None
whole_in table read rows xs all = ap (option_map (λ place. (table, place))) (each_whole read rows xs all)

undamaged : (t : Tables) (rows : Rows) → AreRead t rows → damage_in t ≡ None
undamaged t rows a =
    λ i. option_or (whole_in Sets set_in t.sets rows.sets a.sets i) (option_or (whole_in Replies reply_in t.replies rows.replies a.replies i)
    (option_or (whole_in Decks deck_in t.decks rows.decks a.decks i) (option_or (whole_in Statuses status_in t.statuses rows.statuses a.statuses i) (whole_in Floors floor_in t.floors rows.floors a.floors i))))

-- where none of the five is there, no rows are read
pub none_reads : (db : Database) (rows : Rows) → present_in db.schema.tables ≡ none_there → rows ≡ no_rows → ReadsAll (ordered (tables_in db)) (Ok rows)
none_reads db rows none is = ap (λ (t : Tables). rows_of (ordered t)) (none_without db none) ∙ ap (λ (r : Rows). some r) (sym is)

-- a damage that may be told
on_seen : (new : State) (P : Option (Table × ℕ) → Type 0) → (IsTrue (is_shown new) → P (damage_of new.now)) → P None → P (damage_seen new)
on_seen new P f none = by (is_shown new) refl
  where
    by : (b : Bool) → is_shown new ≡ b → P (damage_seen new)
    by true is = subst P (sym (ap (λ b. cond b (damage_of new.now) None) is)) (f is)
    by false is = subst P (sym (ap (λ b. cond b (damage_of new.now) None) is)) none

-- the damage of a database that serves, and of another
on_damage : (db : Database) (P : Option (Table × ℕ) → Type 0) → (Serves db → P (damage_in (ordered (tables_in db)))) → P None → P (damage_of db)
on_damage db P f none = by (is_whole db) refl
  where
    by : (b : Bool) → is_whole db ≡ b → P (damage_of db)
    by true is = subst P (sym (ap (λ b. cond b (damage_in (ordered (tables_in db))) None) is)) (f (whole_is db is))
    by false is = subst P (sym (ap (λ b. cond b (damage_in (ordered (tables_in db))) None) is)) none

seen_is : (s : State) → IsTrue (is_shown s) → damage_seen s ≡ damage_of s.now
seen_is s shown = ap (λ b. cond b (damage_of s.now) None) shown

abbrev Agree : Option (Table × ℕ) → Option (Table × ℕ) → Type 0
Agree before after = IfSome before (λ found. IfSome after (λ still. still ≡ found))

no_more : (d : Option (Table × ℕ)) → Agree d None
no_more None = tt
no_more (Some found) = tt

agree_same : (d e : Option (Table × ℕ)) → e ≡ d → Agree d e
agree_same None e is = tt
agree_same (Some found) e is = subst (λ o. IfSome o (λ still. still ≡ found)) (sym is) refl

-- the making of the tables leaves the damage
pub made_damage : {X E : Type 0} (old new : State) (r : Result X E) → doubt old.is_clean ≤ doubt new.is_clean → (HasCleanDisk new → IsTrue new.is_open → IsTrue old.is_open)
    → (HasCleanDisk new → OnOk r (IsMadeReady old.now new.now)) → (HasCleanDisk new → IsTrue new.is_open → OnErr r (new.now ≡ old.now)) → SameDamage (damage_seen old) (damage_seen new)
made_damage {X} {E} old new r clean opened tables kept = on_seen new (Agree (damage_seen old)) (λ shown.
    let was = shown_before old new clean opened shown in
    subst (λ d. Agree d (damage_of new.now)) (sym (seen_is old was.0)) (at r (tables was.1) (kept was.1 was.2))) (no_more (damage_seen old))
  where
    at : (o : Result X E) → OnOk o (IsMadeReady old.now new.now) → OnErr o (new.now ≡ old.now) → Agree (damage_of old.now) (damage_of new.now)
    at (Err e) made same = agree_same _ _ (ap damage_of same)
    at (Ok x) made same = by (is_whole old.now) refl
      where
        by : (b : Bool) → is_whole old.now ≡ b → Agree (damage_of old.now) (damage_of new.now)
        by true is =
            let serves = whole_is old.now is in
            let ready = made_ready old.now new.now serves made in
            agree_same _ _ ((λ i. cond (whole_so new.now (ready_serves new.now ready) i) (damage_in (ordered (made_same old.now new.now serves made i))) None) ∙ sym (ap (λ b. cond b (damage_in (ordered (tables_in old.now))) None) is))
        by false is = subst (λ d. Agree d (damage_of new.now)) (sym (ap (λ b. cond b (damage_in (ordered (tables_in old.now))) None) is)) tt

module _ (base : Database) (old new : State) (readable : IsReadable base old) (clean : doubt old.is_clean ≤ doubt new.is_clean)
    (opened : HasCleanDisk new → IsTrue new.is_open → IsTrue old.is_open) (kept : HasCleanDisk new → IsTrue new.is_open → new.now ≡ old.now) where
  module _ (r : Result Rows LoadFault) (reads : HasCleanDisk new → Serves old.now → ReadsAll (ordered (tables_in old.now)) r) where
    rows_loaded : (rows told : Rows) → r ≡ Ok rows → HasCleanDisk new → tables_of old.now ≡ Some told → AreLoaded told rows
    rows_loaded rows told ok clean_now is =
        let it = reads_of old.now told is in
        loaded_tables (tables_in old.now) told rows it.read (subst (ReadsAll (ordered (tables_in old.now))) ok (reads clean_now it.serves))

    pub loaded_by : IfOk r (λ rows. IfSome (told_of base new) (λ told. AreLoaded told rows))
    loaded_by = by r refl
      where
        by : (o : Result Rows LoadFault) → r ≡ o → IfOk o (λ rows. IfSome (told_of base new) (λ told. AreLoaded told rows))
        by (Err e) is = tt
        by (Ok rows) is = on_told base new _ (λ shown was_told.
            let was = shown_before old new clean opened shown in
            let it = told_before base old readable was.0 was_told in
            (it.0, ap tables_of (kept was.1 was.2) ∙ it.1, rows_loaded rows it.0 is was.1 it.1))

    pub sound_by : OnOk r (damage_seen new ≡ None)
    sound_by = by r refl
      where
        by : (o : Result Rows LoadFault) → r ≡ o → OnOk o (damage_seen new ≡ None)
        by (Err e) is = tt
        by (Ok rows) is = on_seen new (λ d. d ≡ None) (λ shown.
            let was = shown_before old new clean opened shown in
            ap damage_of (kept was.1 was.2)
            ∙ on_damage old.now (λ d. d ≡ None) (λ ready. undamaged (ordered (tables_in old.now)) rows (are_read (ordered (tables_in old.now)) rows
            (subst (ReadsAll (ordered (tables_in old.now))) is (reads was.1 ready)))) refl) refl

    -- a database with a damaged row tells no tables
    none_told : (table : Table) (place : ℕ) → r ≡ Err (faults.Damaged table place) → HasCleanDisk new → tables_of old.now ≡ None
    none_told table place bad clean_now = by (tables_of old.now) refl
      where
        at : (told : Rows) → tables_of old.now ≡ Some told → ⊥
        at told is =
            let it = reads_of old.now told is in
            let damaged : damage_in (ordered (tables_in old.now)) ≡ Some (table, place) = subst (ReadsAll (ordered (tables_in old.now))) bad (reads clean_now it.serves) in
            let whole = undamaged (ordered (tables_in old.now)) _ (ordered_read (tables_in old.now) told (are_read (tables_in old.now) told it.read)) in
            let both = sym whole ∙ damaged in
            absurd cc

        by : (o : Option Rows) → tables_of old.now ≡ o → tables_of old.now ≡ None
        by None is = is
        by (Some told) is = absurd (at told is)

    pub damaged_by : IfErr r (NamesFault (told_of base new) (damage_seen new))
    damaged_by = by r refl
      where
        by : (o : Result Rows LoadFault) → r ≡ o → IfErr o (NamesFault (told_of base new) (damage_seen new))
        by (Ok rows) is = tt
        by (Err (faults.Refused error)) is = tt
        by (Err faults.NoMemory) is = tt
        by (Err (faults.Damaged table place)) is = record {
          unknown = told (is_shown new && can_tell base) refl;
          first = on_seen new (λ d. IfSome d (λ found. found ≡ (table, place))) (λ shown.
              let was = shown_before old new clean opened shown in
              subst (λ db. IfSome (damage_of db) (λ found. found ≡ (table, place))) (sym (kept was.1 was.2))
              (on_damage old.now (λ d. IfSome d (λ found. found ≡ (table, place))) (λ ready.
              subst (λ d. IfSome d (λ found. found ≡ (table, place))) (sym (subst (ReadsAll (ordered (tables_in old.now))) is (reads was.1 ready))) refl) tt)) tt;
        }
          where
            told : (b : Bool) → (is_shown new && can_tell base) ≡ b → told_of base new ≡ None
            told true both =
                let was = shown_before old new clean opened (Rattle.sms_sqlite.proofs.SameLemmas.and_parts (is_shown new) (can_tell base) both).0 in
                ap (λ b. cond b (tables_of new.now) None) both ∙ ap tables_of (kept was.1 was.2) ∙ none_told table place is was.1
            told false both = ap (λ b. cond b (tables_of new.now) None) both

  pub damage_stays : StaysDamaged (damage_seen old) (damage_seen new)
  damage_stays = on_seen new (λ d. IfSome d (λ found. damage_seen old ≡ Some found)) (λ shown.
      let was = shown_before old new clean opened shown in
      by (damage_of new.now) (seen_is old was.0 ∙ sym (ap damage_of (kept was.1 was.2)))) tt
    where
      by : (d : Option (Table × ℕ)) → damage_seen old ≡ d → IfSome d (λ found. damage_seen old ≡ Some found)
      by None is = tt
      by (Some found) is = is
