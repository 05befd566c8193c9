-- Reading the rows of a table one behind the other, and the tables one behind the other.
use Rattle.std.proofs.Common.{◌≡◌, ◌<◌, ◌+◌, ℕ, zero, suc, cond, List, [], ◌∷◌, ◌++◌, map, take, length, get_or, Err}
use Rattle.std.proofs.Common.{Some, None, Option, refl, sym, ap, ◌∙◌, arith}
use Rattle.std.specs.Prelude.{is_some, option_map}
use Rattle.std.specs.Option.{option_or}
use Rattle.std.proofs.lemmas.List.{take_more}
use Rattle.std.proofs.Common.{Result, Ok}
use Rattle.sqlite.specs.Order.{Row}
use Rattle.sms_construct.specs.declared.data_set.DataSet.{DataSet}
use Rattle.sms_keeper.specs.declared.deck_row.DeckRow.{DeckRow}
use Rattle.sms_keeper.specs.declared.kept_row.KeptRow.{KeptRow}
use Rattle.sms_keeper.specs.declared.status_row.StatusRow.{StatusRow}
use Rattle.sms_keeper.specs.declared.table.Table.{Table}
use Rattle.sms_keeper.specs.declared.table.Table.TheVariants.{Sets, Replies, Decks, Statuses, Floors}
use Rattle.keeper_statements.specs.Order.{deck_columns, five_columns, three_columns, two_columns}
use Rattle.keeper_statements.specs.Tables.{Tables}
use Rattle.sms_sqlite.specs.Damage.{first_unread, unread_in}
use Rattle.sms_sqlite.specs.Reading.{IsPushed, Reads, ReadsAll}
use Rattle.sms_sqlite.specs.Values.{deck_in, each_in, floor_in, joined, reply_in, set_in, shown_deck_in, status_in}
use Rattle.sms_sqlite.specs.declared.load_fault.LoadFault.{LoadFault}
use Rattle.sms_sqlite.specs.declared.load_fault.LoadFault.TheVariants as faults
use Rattle.sms_sqlite.proofs.ReadLemmas.{each_push, joins}
use Rattle.sms_sqlite.proofs.LoadLemmas.{whole_in}

module _ {B : Type 0} (read : Row → Option B) where
  pushed_on : (rows : List Row) (row : Row) (xs ys : List B) (o : Option B) → read row ≡ o → each_in read rows ≡ Some xs → IsPushed o xs ys → each_in read (rows ++ row ∷ []) ≡ Some ys
  pushed_on rows row xs ys None is all push = absurd push
  pushed_on rows row xs ys (Some x) is all push = each_push read rows xs row x all is ∙ ap Some (sym push)

  -- one row more
  pub rows_more : (rows : List Row) (k : ℕ) (row : Row) (xs ys : List B) → k < length rows → row ≡ get_or rows k row → each_in read (take k rows) ≡ Some xs → IsPushed (read row) xs ys
      → each_in read (take (k + 1) rows) ≡ Some ys
  rows_more rows k row xs ys low is all push =
      ap (each_in read) (take_more rows k row low) ∙ ap (λ r. each_in read (take k rows ++ r ∷ [])) (sym is) ∙ pushed_on (take k rows) row xs ys (read row) refl all push

  -- the first that stands for nothing
  pub unread_at : (rows : List Row) (k : ℕ) (row : Row) (xs : List B) → k < length rows → row ≡ get_or rows k row → each_in read (take k rows) ≡ Some xs → read row ≡ None → first_unread read rows ≡ Some k
  unread_at [] k row xs low is all bad = absurd (omega arith)
  unread_at (r ∷ rows) zero row xs low is all bad = ap (λ b. cond b (option_map suc (first_unread read rows)) (Some 0)) (ap (λ x. is_some (read x)) (sym is) ∙ ap is_some bad)
  unread_at (r ∷ rows) (suc k) row xs low is all bad =
      let p = joins (read r) (each_in read (take k rows)) xs all in
      ap (λ b. cond b (option_map suc (first_unread read rows)) (Some 0)) (ap is_some p.here) ∙ ap (option_map suc) (unread_at rows k row p.others (omega arith) is p.there bad)

  -- rows of which the columns that count are shown
  module _ (shown_read : Row → Option B) (columns : Row → Row) (same : (r : Row) → shown_read (columns r) ≡ read r) where
    each_shown : (rows : List Row) → each_in shown_read (map columns rows) ≡ each_in read rows
    each_shown [] = refl
    each_shown (r ∷ rows) = λ i. joined (same r i) (each_shown rows i)

    unread_shown : (rows : List Row) → first_unread shown_read (map columns rows) ≡ first_unread read rows
    unread_shown [] = refl
    unread_shown (r ∷ rows) = λ i. cond (is_some (same r i)) (option_map suc (unread_shown rows i)) (Some 0)

    pub reads_shown : (table : Table) (rows shown : List Row) (r : Result (List B) LoadFault) → shown ≡ map columns rows → Reads table shown_read shown r → Reads table read rows r
    reads_shown table rows shown (Ok xs) is h = sym (each_shown rows) ∙ ap (each_in shown_read) (sym is) ∙ h
    reads_shown table rows shown (Err (faults.Refused e)) is h = tt
    reads_shown table rows shown (Err (faults.Damaged at place)) is h = (h.0, sym (unread_shown rows) ∙ ap (first_unread shown_read) (sym is) ∙ h.1)
    reads_shown table rows shown (Err faults.NoMemory) is h = tt

  found_in : (table at : Table) (place : ℕ) (rows : List Row) → at ≡ table → first_unread read rows ≡ Some place → unread_in table read rows ≡ Some (at, place)
  found_in table at place rows is first = ap (option_map (λ n. (table, n))) first ∙ ap (λ t. Some (t, place)) (sym is)

pub set_shown : (r : Row) → set_in (two_columns r) ≡ set_in r
unfolding set_in
set_shown r = refl

pub reply_shown : (r : Row) → reply_in (five_columns r) ≡ reply_in r
unfolding reply_in
reply_shown r = refl

pub deck_shown : (r : Row) → shown_deck_in (deck_columns r) ≡ deck_in r
unfolding shown_deck_in deck_in
deck_shown r = refl

pub status_shown : (r : Row) → status_in (three_columns r) ≡ status_in r
unfolding status_in
status_shown r = refl

pub floor_shown : (r : Row) → floor_in (two_columns r) ≡ floor_in r
unfolding floor_in
floor_shown r = refl

-- a refusal of one table is one of all, where those before it stand for something
pub sets_fail : (t : Tables) (e : LoadFault) → Reads {B = DataSet} Sets set_in t.sets (Err e) → ReadsAll t (Err e)
sets_fail t (faults.Refused error) h = tt
sets_fail t faults.NoMemory h = tt
sets_fail t (faults.Damaged at place) h = λ i. option_or (found_in set_in Sets at place t.sets h.0 h.1 i)
    (option_or (unread_in Replies reply_in t.replies) (option_or (unread_in Decks deck_in t.decks) (option_or (unread_in Statuses status_in t.statuses) (unread_in Floors floor_in t.floors))))

pub replies_fail : (t : Tables) (e : LoadFault) (a : List DataSet) → each_in set_in t.sets ≡ Some a → Reads {B = KeptRow} Replies reply_in t.replies (Err e) → ReadsAll t (Err e)
replies_fail t (faults.Refused error) a p h = tt
replies_fail t faults.NoMemory a p h = tt
replies_fail t (faults.Damaged at place) a p h = λ i. option_or (whole_in Sets set_in t.sets a p i) (option_or (found_in reply_in Replies at place t.replies h.0 h.1 i)
    (option_or (unread_in Decks deck_in t.decks) (option_or (unread_in Statuses status_in t.statuses) (unread_in Floors floor_in t.floors))))

pub decks_fail : (t : Tables) (e : LoadFault) (a : List DataSet) (b : List KeptRow) → each_in set_in t.sets ≡ Some a → each_in reply_in t.replies ≡ Some b → Reads {B = DeckRow} Decks deck_in t.decks (Err e) → ReadsAll t (Err e)
decks_fail t (faults.Refused error) a b p q h = tt
decks_fail t faults.NoMemory a b p q h = tt
decks_fail t (faults.Damaged at place) a b p q h = λ i. option_or (whole_in Sets set_in t.sets a p i) (option_or (whole_in Replies reply_in t.replies b q i)
    (option_or (found_in deck_in Decks at place t.decks h.0 h.1 i) (option_or (unread_in Statuses status_in t.statuses) (unread_in Floors floor_in t.floors))))

pub statuses_fail : (t : Tables) (e : LoadFault) (a : List DataSet) (b : List KeptRow) (c : List DeckRow) → each_in set_in t.sets ≡ Some a → each_in reply_in t.replies ≡ Some b → each_in deck_in t.decks ≡ Some c
    → Reads {B = StatusRow} Statuses status_in t.statuses (Err e) → ReadsAll t (Err e)
statuses_fail t (faults.Refused error) a b c p q r h = tt
statuses_fail t faults.NoMemory a b c p q r h = tt
statuses_fail t (faults.Damaged at place) a b c p q r h = λ i. option_or (whole_in Sets set_in t.sets a p i) (option_or (whole_in Replies reply_in t.replies b q i)
    (option_or (whole_in Decks deck_in t.decks c r i) (option_or (found_in status_in Statuses at place t.statuses h.0 h.1 i) (unread_in Floors floor_in t.floors))))

pub floors_fail : (t : Tables) (e : LoadFault) (a : List DataSet) (b : List KeptRow) (c : List DeckRow) (d : List StatusRow) → each_in set_in t.sets ≡ Some a → each_in reply_in t.replies ≡ Some b
    → each_in deck_in t.decks ≡ Some c → each_in status_in t.statuses ≡ Some d → Reads Floors floor_in t.floors (Err e) → ReadsAll t (Err e)
floors_fail t (faults.Refused error) a b c d p q r s h = tt
floors_fail t faults.NoMemory a b c d p q r s h = tt
floors_fail t (faults.Damaged at place) a b c d p q r s h = λ i. option_or (whole_in Sets set_in t.sets a p i) (option_or (whole_in Replies reply_in t.replies b q i)
    (option_or (whole_in Decks deck_in t.decks c r i) (option_or (whole_in Statuses status_in t.statuses d s i) (found_in floor_in Floors at place t.floors h.0 h.1 i))))
