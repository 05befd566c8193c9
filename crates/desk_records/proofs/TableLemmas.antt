-- The tables after one more entry.
use Rattle.std.proofs.Common.{◌≡◌, ℕ, ◌+◌, Bool, true, false, cond, List, [], ◌∷◌, ◌++◌, None, filter, refl, sym, ap}
use Rattle.std.proofs.Common.{◌∙◌, append-nil}
use Rattle.std.specs.Prelude.{Option, ◌==◌, bytes_eq, count_by}
use Rattle.std.proofs.lemmas.Bool.Decides.{Decides-eqb}
use Rattle.std.proofs.lemmas.List.Elements.{filter-append}
use Rattle.std.proofs.lemmas.List.Sums.{fold_push}
use Rattle.sms_construct.specs.Configuration.{Configuration}
use Rattle.sms_construct.specs.declared.data_set.DataSet.{DataSet}
use Rattle.sms_construct.specs.declared.entry.Entry.{Entry}
use Rattle.sms_construct.specs.declared.target.Target.{Target}
use Rattle.sms_keeper.specs.declared.deck_row.DeckRow.{DeckRow}
use Rattle.sms_keeper.specs.declared.effect.Effect.{Effect}
use Rattle.sms_keeper.specs.declared.effect.Effect.TheVariants as effects
use Rattle.sms_keeper.specs.declared.floor.Floor.{Floor}
use Rattle.sms_keeper.specs.declared.kept_row.KeptRow.{KeptRow}
use Rattle.sms_keeper.specs.declared.rows.Rows.{Rows}
use Rattle.sms_keeper.specs.declared.status_row.StatusRow.{StatusRow}
use Rattle.sms_keeper.specs.Suits.{deck_of}
use Rattle.sms_keeper.specs.Tables.{AreSame, decks_added, floors_with, is_deck, is_floor_of, is_named, is_reply_of}
use Rattle.sms_keeper.specs.Tables.{is_status_of, keep_row, put_set, replies_left, row_with, sets_with, statuses_with}
use Rattle.sms_keeper.specs.Tables.{with_change, without_set}
use Rattle.desk_law.specs.State.{DeskState, Opening}
use Rattle.desk_law.specs.Kept.{all_floors, all_rows, floor_of, floor_told, is_fault, kept_for, row_of_entry}
use Rattle.desk_law.specs.Kept.{rows_of_entry}
use Rattle.desk_law.specs.Records.{AreKept, IsTables, decks_of, decks_of_entry, decks_told}
use Rattle.desk_law.proofs.FloorLemmas.{all-floors-append, all-rows-append}
use Rattle.desk_records.specs.Effects.{Matches, change_of, state_with}
use Rattle.desk_records.specs.Tied.{faults_in}
use Rattle.desk_records.proofs.KeyLemmas.{filter-dropped, filter-mapped, name-known}
use Rattle.desk_records.proofs.KeptLemmas.{kept-with}
use Rattle.desk_records.proofs.EffectLemmas.{kept-no_fault}

-- A history with one entry more.

pub floors-push : (o : Opening) (h : List Entry) (e : Entry) → all_floors o (h ++ e ∷ []) ≡ all_floors o h ++ floor_told e.answer.reply
floors-push o h e = all-floors-append o h (e ∷ []) ∙ ap (λ (l : List Floor). all_floors o h ++ l) (append-nil (floor_told e.answer.reply))

rows-push : (o : Opening) (h : List Entry) (e : Entry) → all_rows o (h ++ e ∷ []) ≡ all_rows o h ++ rows_of_entry e
rows-push o h e = all-rows-append o h (e ∷ []) ∙ ap (λ (l : List KeptRow). all_rows o h ++ l) (append-nil (rows_of_entry e))

-- an entry that is no fault has a row
pub rows-more : (o : Opening) (h : List Entry) (e : Entry) → is_fault e.answer.reply ≡ false → all_rows o (h ++ e ∷ []) ≡ all_rows o h ++ row_of_entry e ∷ []
rows-more o h e no_fault = rows-push o h e ∙ rw no_fault refl

-- a fault has none
pub rows-fault : (o : Opening) (h : List Entry) (e : Entry) → is_fault e.answer.reply ≡ true → all_rows o (h ++ e ∷ []) ≡ all_rows o h
rows-fault o h e fault = rows-push o h e ∙ rw fault (append-nil (all_rows o h))

behind : (a b c : List DeckRow) → a ++ (b ++ c) ≡ (a ++ b) ++ c
behind [] b c = refl
behind (x ∷ a) b c = ap (λ (l : List DeckRow). x ∷ l) (behind a b c)

decks-append : (h : List Entry) (e : Entry) → decks_of (h ++ e ∷ []) ≡ decks_of h ++ decks_of_entry e
decks-append [] e = append-nil (decks_of_entry e)
decks-append (x ∷ h) e = ap (λ (l : List DeckRow). decks_of_entry x ++ l) (decks-append h e) ∙ behind (decks_of_entry x) (decks_of h) (decks_of_entry e)

decks-push : (o : Opening) (h : List Entry) (e : Entry) → o.rows.decks ++ decks_of (h ++ e ∷ []) ≡ (o.rows.decks ++ decks_of h) ++ decks_of_entry e
decks-push o h e = ap (λ (l : List DeckRow). o.rows.decks ++ l) (decks-append h e) ∙ behind o.rows.decks (decks_of h) (decks_of_entry e)

-- counts of a list with one more at its end
pub count-push : {X : Type 0} (p : X → Bool) (xs : List X) (x : X) → count_by p (xs ++ x ∷ []) ≡ count_by p xs + cond (p x) 1 0
count-push p xs x = fold_push (λ n y. n + cond (p y) 1 0) 0 xs x

pub faults-push : (h : List Entry) (e : Entry) → faults_in (h ++ e ∷ []) ≡ faults_in h + cond (is_fault e.answer.reply) 1 0
faults-push h e = count-push (λ (x : Entry). is_fault x.answer.reply) h e

-- Rows that are the same under each key stay so.

put-same : (set : DataSet) (a b : List DataSet) (dsn : List ℕ) → filter (is_named dsn) a ≡ filter (is_named dsn) b → filter (is_named dsn) (put_set set a) ≡ filter (is_named dsn) (put_set set b)
put-same set a b dsn same =
    let p = is_named dsn in
    rw (
      filter-append p (without_set set.dsn a) (set ∷ []),
      filter-append p (without_set set.dsn b) (set ∷ []),
      filter-dropped p (is_named set.dsn) (bytes_eq dsn set.dsn) (λ x is. name-known x.dsn dsn set.dsn is) a,
      filter-dropped p (is_named set.dsn) (bytes_eq dsn set.dsn) (λ x is. name-known x.dsn dsn set.dsn is) b,
      same,
    ) refl

drop-same : (name : List ℕ) (a b : List DataSet) (dsn : List ℕ) → filter (is_named dsn) a ≡ filter (is_named dsn) b → filter (is_named dsn) (without_set name a) ≡ filter (is_named dsn) (without_set name b)
drop-same name a b dsn same =
    let p = is_named dsn in
    rw (
      filter-dropped p (is_named name) (bytes_eq dsn name) (λ x is. name-known x.dsn dsn name is) a,
      filter-dropped p (is_named name) (bytes_eq dsn name) (λ x is. name-known x.dsn dsn name is) b,
      same,
    ) refl

sets-same : (effect : Effect) (a b : List DataSet) (dsn : List ℕ) → filter (is_named dsn) a ≡ filter (is_named dsn) b → filter (is_named dsn) (sets_with effect a) ≡ filter (is_named dsn) (sets_with effect b)
sets-same (effects.PutSet set) a b dsn same = put-same set a b dsn same
sets-same (effects.DropSet name) a b dsn same = drop-same name a b dsn same
sets-same effects.Nothing a b dsn same = same
sets-same (effects.Activated count statuses) a b dsn same = same
sets-same (effects.SetStatus target status) a b dsn same = same
sets-same (effects.Floor job floor) a b dsn same = same

statuses-same : (effect : Effect) (a b : List StatusRow) (t : Target) → filter (is_status_of t) a ≡ filter (is_status_of t) b → filter (is_status_of t) (statuses_with effect a) ≡ filter (is_status_of t) (statuses_with effect b)
statuses-same (effects.SetStatus target status) a b t same =
    rw (filter-mapped (row_with target status) (is_status_of t) (λ row. refl) a, filter-mapped (row_with target status) (is_status_of t) (λ row. refl) b, same) refl
statuses-same (effects.Activated count statuses) a b t same = refl
statuses-same effects.Nothing a b t same = same
statuses-same (effects.PutSet set) a b t same = same
statuses-same (effects.DropSet name) a b t same = same
statuses-same (effects.Floor job floor) a b t same = same

kept-same : (F : List Floor) (R kept kept' : List KeptRow) (standing standing' : List Floor)
    → ((job : List ℕ) (number : ℕ) → filter (is_reply_of job number) kept' ≡ filter (is_reply_of job number) kept) → ((job : List ℕ) → filter (is_floor_of job) standing' ≡ filter (is_floor_of job) standing)
    → AreKept F R kept standing → AreKept F R kept' standing'
kept-same F R kept kept' standing standing' rows floors are = record {
  replies_are = λ job number. rows job number ∙ are.replies_are job number;
  floors_are = λ job. floors job ∙ are.floors_are job;
}

-- tables that are the same are of the same history
pub tables-same : (o : Opening) (h : List Entry) (s : DeskState) (rows rows' : Rows) → AreSame rows' rows → IsTables o h s rows → IsTables o h s rows'
tables-same o h s rows rows' same tables = record {
  sets_are = λ dsn. same.sets dsn ∙ tables.sets_are dsn;
  kept_are = kept-same _ _ rows.replies rows'.replies rows.floors rows'.floors same.replies same.floors tables.kept_are;
  decks_are = λ count. same.decks count ∙ tables.decks_are count;
  statuses_are = λ target. same.statuses target ∙ tables.statuses_are target;
}

-- The tables after an entry.

fresh-kept : (o : Opening) (h : List Entry) (e : Entry) (effect : Effect) (kept : List KeptRow) (standing : List Floor) → Matches (floor_of o h) e.request.op e.answer.reply effect
    → kept_for o h e.request.job e.request.number ≡ None → AreKept (all_floors o h) (all_rows o h) kept standing
    → AreKept (all_floors o (h ++ e ∷ [])) (all_rows o (h ++ e ∷ [])) (keep_row (floors_with effect standing) (row_of_entry e) (replies_left effect kept)) (floors_with effect standing)
fresh-kept o h e effect kept standing match_ none are =
    rw (floors-push o h e ∙ ap (λ (l : List Floor). all_floors o h ++ l) match_.floors_match, rows-more o h e (kept-no_fault e.answer.reply match_.kept))
    (kept-with (all_floors o h) (all_rows o h) kept standing effect (row_of_entry e) are match_.raises none)

-- an entry that is no repeat has its own decks
pub own-decks : (e : Entry) → e.answer.first ≡ e.answer.place → decks_of_entry e ≡ decks_told e.answer.reply (deck_of e.request.op)
own-decks e first = let is : (e.answer.first == e.answer.place) ≡ true = (Decides-eqb e.answer.first e.answer.place).1 first in rw is refl

-- the change of a fresh request was made
pub tables-fresh : (o : Opening) (h : List Entry) (s : DeskState) (e : Entry) (effect : Effect) (config : Option Configuration) (rows rows' : Rows) → Matches (floor_of o h) e.request.op e.answer.reply effect
    → kept_for o h e.request.job e.request.number ≡ None → e.answer.first ≡ e.answer.place → AreSame rows' (with_change rows (change_of e effect))
    → IsTables o h s rows → IsTables o (h ++ e ∷ []) (state_with s effect config) rows'
tables-fresh o h s e effect config rows rows' match_ none first same tables = record {
  sets_are = λ dsn. same.sets dsn ∙ sets-same effect rows.sets s.sets dsn (tables.sets_are dsn);
  kept_are = kept-same _ _ _ rows'.replies _ rows'.floors same.replies same.floors (fresh-kept o h e effect rows.replies rows.floors match_ none tables.kept_are);
  decks_are = λ count.
      let p = is_deck count in
      let deck : decks_of_entry e ≡ decks_added e.request.op effect = own-decks e first ∙ match_.decks_match in
      same.decks count ∙ filter-append p rows.decks (decks_added e.request.op effect) ∙ ap (λ (l : List DeckRow). l ++ filter p (decks_added e.request.op effect)) (tables.decks_are count)
      ∙ sym (filter-append p (o.rows.decks ++ decks_of h) (decks_added e.request.op effect)) ∙ ap (λ (l : List DeckRow). filter p ((o.rows.decks ++ decks_of h) ++ l)) (sym deck) ∙ ap (filter p) (sym (decks-push o h e));
  statuses_are = λ target. same.statuses target ∙ statuses-same effect rows.statuses s.statuses target (tables.statuses_are target);
}

-- the entry changes nothing
pub tables-quiet : (o : Opening) (h : List Entry) (s : DeskState) (e : Entry) (rows : Rows) → decks_of_entry e ≡ []
    → AreKept (all_floors o (h ++ e ∷ [])) (all_rows o (h ++ e ∷ [])) rows.replies rows.floors → IsTables o h s rows → IsTables o (h ++ e ∷ []) s rows
tables-quiet o h s e rows none kept tables = record {
  sets_are = tables.sets_are;
  kept_are = kept;
  decks_are = λ count. tables.decks_are count ∙ ap (filter (is_deck count)) (sym (decks-push o h e ∙ ap (λ (l : List DeckRow). (o.rows.decks ++ decks_of h) ++ l) none ∙ append-nil (o.rows.decks ++ decks_of h)));
  statuses_are = tables.statuses_are;
}
