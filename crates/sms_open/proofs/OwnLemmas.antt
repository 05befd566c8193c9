-- The tables that a desk leaves, in the order of their keys, pass all tests.
use Rattle.std.proofs.Common.{◌≡◌, ◌≤◌, ◌<◌, ◌+◌, ℕ, zero, suc, cond, List, [], ◌∷◌, ◌++◌, Option, None, Some, Ok, Err}
use Rattle.std.proofs.Common.{length, refl, sym, ap, ◌∙◌, subst, arith}
use Rattle.std.specs.Prelude.{IfErr, IfSome, IsSorted, Result, max, min}
use Rattle.std.specs.List.{AllByRecursion}
use Rattle.sms_construct.specs.Configuration.{Configuration}
use Rattle.sms_construct.specs.declared.data_set.DataSet.{DataSet}
use Rattle.sms_construct.specs.declared.entry.Entry.{Entry}
use Rattle.sms_construct.specs.declared.extent.Extent.{Extent}
use Rattle.sms_construct.specs.declared.target.Target.{Target}
use Rattle.sms_keeper.specs.declared.deck_row.DeckRow.{DeckRow}
use Rattle.sms_keeper.specs.declared.floor.Floor.{Floor}
use Rattle.sms_keeper.specs.declared.kept_row.KeptRow.{KeptRow}
use Rattle.sms_keeper.specs.declared.load_err.LoadErr.{LoadErr}
use Rattle.sms_keeper.specs.declared.load_err.LoadErr.TheVariants as loads
use Rattle.sms_keeper.specs.declared.rows.Rows.{Rows}
use Rattle.sms_keeper.specs.declared.status_row.StatusRow.{StatusRow}
use Rattle.sms_keeper.specs.declared.table.Table.{Table}
use Rattle.sms_keeper.specs.Loading.{AreLoaded, NamesDamage, by_count}
use Rattle.sms_keeper.specs.Tables.{AreSame, is_reply_of, no_rows, same_target}
use Rattle.desk_law.specs.Decked.{IsDecked, IsLastActive}
use Rattle.desk_law.specs.History.{Reaches}
use Rattle.desk_law.specs.Kept.{all_floors, all_rows}
use Rattle.desk_law.specs.KeptRows.{AreKeptRows, IsKeptRow}
use Rattle.desk_law.specs.Lawful.{IsInside, IsLawful, IsLawfulSet}
use Rattle.desk_law.specs.Records.{IsTables, decks_of, empty_opening}
use Rattle.desk_law.specs.State.{DeskState, Opening, start_of}
use Rattle.desk_law.specs.Statuses.{times_status}
use Rattle.desk_law.specs.Volumes.{times_target, volumes_in}
use Rattle.desk_law.proofs.ActivationLemmas.{AreEarlier, reaches-decked}
use Rattle.desk_law.proofs.HistoryLemmas.{leads-lawful}
use Rattle.desk_law.proofs.KeptRowLemmas.{kept-rows-kept}
use Rattle.desk_law.proofs.OrderLemmas.{lawful-same}
use Rattle.desk_law.proofs.PlacedRowLemmas.{own-key}
use Rattle.desk_records.proofs.TableLemmas.{tables-same}
use Rattle.desk_records.proofs.TiedLemmas.{each-weaker}
use Rattle.desk_restoring.specs.Opened.{greatest_place}
use Rattle.sms_open.specs.declared.open_err.OpenErr.{OpenErr}
use Rattle.sms_open.specs.declared.open_err.OpenErr.TheVariants as refusals
use Rattle.sms_open.specs.declared.rows_err.RowsErr.{RowsErr}
use Rattle.sms_open.specs.declared.rows_err.RowsErr.TheVariants.{Unsound}
use Rattle.sms_open.specs.Own.{AreOwn, HasSoundRows, SparesTables}
use Rattle.sms_open.specs.Reopening.{IsOpened, IsOpenedAt, NamesRefusal, refusal_of_load}
use Rattle.sms_open.specs.Tests.{AreCounted, ArePlaced, AreSingle, AreSoundReplies, AreStatusesOf, HasLastFault}
use Rattle.sms_open.specs.Tests.{IsSoundReply, most_place}
use Rattle.sms_open.specs.Verdicts.{IsVerdict}
use Rattle.sms_open.proofs.EachLemmas.{each-alike}
use Rattle.sms_open.proofs.OpeningLemmas.{Passed, decked-at, lawful, passed-all, passes-all}
use Rattle.sms_open.proofs.OwnDeckLemmas.{same-decks}
use Rattle.sms_open.proofs.OwnReplyLemmas.{all-low, once-floor, once-kept, sound-replies}
use Rattle.sms_open.proofs.StatusLemmas.{no-target, own-target}
use Rattle.sms_open.proofs.VerdictLemmas.{not-both, one-verdict}

-- Openings with sound rows.

-- a new desk has none
pub empty-sound : HasSoundRows empty_opening
empty-sound = record {
  verdict = passes-all no_rows None (record {
    single = record { names = λ dsn. omega arith; numbers = λ job number. omega arith; jobs = λ job. omega arith };
    counted = record { in_order = tt; no_sets = λ none. refl; no_statuses = λ none. refl };
    last = refl;
    statuses = record { each = λ target. sym (no-target target); connected = tt };
    placed = record { each = tt; once = λ volser track. omega arith };
    replies = record { each = tt; apart = λ place. omega arith; floors_stand = tt };
  });
  behind = omega arith;
}

-- those of a desk that went on are
pub opened-sound : (told : Option Rows) (o : Opening) → IsOpened told o → HasSoundRows o
opened-sound told o is = record {
  verdict = is.verdict;
  behind = (let base : o.base ≡ greatest_place o.rows.replies = ap (λ (other : Opening). other.base) is.opening in omega (arith, base));
}

pub placed-sound : (place : ℕ) (told : Option Rows) (o : Opening) → IsOpenedAt place told o → HasSoundRows o
placed-sound place told o is = record {
  verdict = is.verdict;
  behind = (let base : o.base ≡ max (min place most_place) (greatest_place o.rows.replies) = ap (λ (other : Opening). other.base) is.opening in omega (arith, base));
}

start-passed : (o : Opening) → HasSoundRows o → Passed o.rows o.config
start-passed o start = passed-all o.rows o.config start.verdict

each-behind : (last : ℕ) (floors : List Floor) (rows : List KeptRow) → greatest_place rows ≤ last → AllByRecursion (IsSoundReply floors) rows → AllByRecursion (IsKeptRow last) rows
each-behind last floors [] most all = tt
each-behind last floors (row ∷ rows) most all =
    let is = all.0.kept in (
      record { fate = is.fate; job = is.job; number = is.number; some = is.some; within = omega (arith, most) },
      each-behind last floors rows (omega (arith, most)) all.1,
    )

start-kept : (o : Opening) → HasSoundRows o → AreKeptRows o.base o.rows.replies
start-kept o start =
    let passed = start-passed o start in
    record { each = each-behind o.base o.rows.floors o.rows.replies start.behind passed.replies.each; apart = passed.replies.apart }

start-earlier : (o : Opening) → HasSoundRows o → AreEarlier o.base o.rows.replies
start-earlier o start = each-weaker (IsKeptRow o.base) (λ (row : KeptRow). row.place ≤ o.base) (λ row is. is.within) o.rows.replies (start-kept o start).each

start-lawful : (o : Opening) → HasSoundRows o → IsLawful (start_of o)
start-lawful o start = lawful o.rows o.config (start-passed o start)

start-decked : (o : Opening) → HasSoundRows o → IsDecked o.rows.decks (start_of o)
start-decked o start = decked-at o.rows o.config (start-passed o start)

-- What a desk without a configuration has.

nowhere : (extents : List Extent) → 0 < length extents → AllByRecursion (IsInside []) extents → ⊥
nowhere [] some inside = omega (arith, some)
nowhere (extent ∷ extents) some inside = let here = inside.0 in omega (arith, here.0, here.1)

no-sets : (sets : List DataSet) → AllByRecursion (IsLawfulSet []) sets → sets ≡ []
no-sets [] all = refl
no-sets (set ∷ sets) all = absurd (nowhere set.extents all.0.some all.0.inside)

no-statuses : (rows : List StatusRow) → ((target : Target) → times_status target rows ≡ 0) → rows ≡ []
no-statuses [] none = refl
no-statuses (row ∷ rows) none =
    let here : cond (same_target row.target row.target) 1 zero ≡ suc zero = rw (own-target row.target) refl in
    let bad = none row.target in
    absurd (omega (arith, here, bad))

-- The six tests, of rows with the tables of a legal history behind an opening with sound rows.

module _ (o : Opening) (h : List Entry) (s : DeskState) (rows : Rows) (start : HasSoundRows o) (reaches : Reaches o h s) (tables : IsTables o h s rows) where
  state-with-rows : IsLawful (record { activations = length rows.decks; active = s.active; statuses = rows.statuses; sets = rows.sets })
  state-with-rows = lawful-same s (start_of (record { rows = rows; config = s.active; base = 0 })) (leads-lawful o [] (start_of o) h s (start-lawful o start) reaches) refl tables.sets_are tables.statuses_are

  own-single : AreSingle rows
  own-single = record {
    names = state-with-rows.names;
    numbers = λ job number. once-kept (all_floors o h) (all_rows o h) rows.replies rows.floors job number tables.kept_are;
    jobs = λ job. once-floor (all_floors o h) (all_rows o h) rows.replies rows.floors job tables.kept_are;
  }

  -- decks in the order of their numbers are those that led to the state
  own-decked : IsSorted by_count rows.decks → IsDecked rows.decks s
  own-decked sorted =
      let decked = reaches-decked o h s (start-earlier o start) (start-decked o start) reaches in
      subst (λ (decks : List DeckRow). IsDecked decks s) (sym (same-decks 0 (o.rows.decks ++ decks_of h) rows.decks decked.numbered sorted tables.decks_are)) decked

  bare : IsSorted by_count rows.decks → rows.decks ≡ [] → s.active ≡ None
  bare sorted none = subst (λ (decks : List DeckRow). IsLastActive decks s.active) none (own-decked sorted).last

  own-counted : IsSorted by_count rows.decks → AreCounted rows
  own-counted sorted = record {
    in_order = (own-decked sorted).numbered;
    no_sets = λ none. no-sets rows.sets (subst (λ (active : Option Configuration). AllByRecursion (IsLawfulSet (volumes_in active)) rows.sets) (bare sorted none) state-with-rows.sets);
    no_statuses = λ none. no-statuses rows.statuses
        (λ target. state-with-rows.statuses target ∙ (ap (λ (active : Option Configuration). times_target active target) (bare sorted none) ∙ no-target target));
  }

  own-last : IsSorted by_count rows.decks → HasLastFault rows.decks → ⊥
  own-last sorted fault = not-both rows.decks s.active (own-decked sorted).last fault

  own-statuses : AreStatusesOf s.active rows.statuses
  own-statuses = record { each = state-with-rows.statuses; connected = state-with-rows.connected }

  own-placed : ArePlaced s.active rows.sets
  own-placed = record { each = state-with-rows.sets; once = state-with-rows.once }

  own-replies : AllByRecursion (λ (row : KeptRow). row.place ≤ most_place) rows.replies → AreSoundReplies rows.replies rows.floors
  own-replies few =
      sound-replies (o.base + length h) (all_floors o h) (all_rows o h) rows.replies rows.floors tables.kept_are (all-low o h (start-passed o start).replies.each)
      (kept-rows-kept o h rows.replies rows.floors (start-kept o start) (s, reaches) tables.kept_are) few

  own-passed : IsSorted by_count rows.decks → AllByRecursion (λ (row : KeptRow). row.place ≤ most_place) rows.replies → Passed rows s.active
  own-passed sorted few = record {
    single = own-single;
    counted = own-counted sorted;
    last = (own-decked sorted).last;
    statuses = own-statuses;
    placed = own-placed;
    replies = own-replies few;
  }

-- what a desk leaves that came to no place over the greatest
pub left-own : (o : Opening) (h : List Entry) (s : DeskState) (tables : Rows) → HasSoundRows o → Reaches o h s → IsTables o h s tables → o.base + length h ≤ most_place → AreOwn tables
left-own o h s tables start reaches are few = record {
  opening = o;
  history = h;
  state = s;
  sound = start;
  reaches = reaches;
  tables_are = are;
  places = each-weaker (IsKeptRow (o.base + length h)) (λ (row : KeptRow). row.place ≤ most_place) (λ row is. let within = is.within in omega (arith, within, few)) tables.replies
      (kept-rows-kept o h tables.replies tables.floors (start-kept o start) (s, reaches) are.kept_are).each;
}

-- The same tables, in any order of their keys.

abbrev ArePlacedLow : List KeptRow → Type 0
ArePlacedLow rows = AllByRecursion (λ (row : KeptRow). row.place ≤ most_place) rows

low-same : (tables other : Rows) → AreSame other tables → ArePlacedLow tables.replies → ArePlacedLow other.replies
low-same tables other same few =
    each-alike (λ (row : KeptRow). row.place ≤ most_place) (λ (row : KeptRow). is_reply_of row.job row.number) tables.replies other.replies own-key (λ row. same.replies row.job row.number) few

pub same-own : (tables other : Rows) → AreSame other tables → AreOwn tables → AreOwn other
same-own tables other same own = record {
  opening = own.opening;
  history = own.history;
  state = own.state;
  sound = own.sound;
  reaches = own.reaches;
  tables_are = tables-same own.opening own.history own.state tables other same own.tables_are;
  places = low-same tables other same own.places;
}

-- The verdict, and the refusals.

-- a desk's own tables, in the order of their keys, pass all tests under what is active
pub own-verdict : (tables rows : Rows) (own : AreOwn tables) → AreLoaded tables rows → IsVerdict rows (Ok own.state.active)
own-verdict tables rows own loaded =
    let same = tables-same own.opening own.history own.state tables rows loaded.same own.tables_are in
    passes-all rows own.state.active (own-passed own.opening own.history own.state rows own.sound own.reaches same loaded.ordered.decks (low-same tables rows loaded.same own.places))

-- rows that pass aren't refused
not-refused : (rows : Rows) (active : Option Configuration) (err : RowsErr) → IsVerdict rows (Ok active) → IsVerdict rows (Err err) → ⊥
not-refused rows active err passes refused = let bad : Ok active ≡ Err err = one-verdict rows (Ok active) (Err err) passes refused in cc

spared : (tables : Rows) (damage : Option (Table × ℕ)) (err : OpenErr) → NamesRefusal (Some tables) damage err → AreOwn tables → SparesTables err
spared tables damage refusals.Failed refused own = tt
spared tables damage (refusals.Damaged table row) refused own = let bad : Some tables ≡ None = refused.unknown in cc
spared tables damage (refusals.Unsound number) refused own =
    let rows = refused.1.rows in not-refused rows own.state.active (Unsound number) (own-verdict tables rows own refused.1.tables) refused.1.verdict
spared tables damage refusals.NoMemory refused own = tt

-- no refusal is for tables of a desk's own
abbrev pub SparesOwn : Option Rows → OpenErr → Type 0
SparesOwn told err = IfSome told (λ tables. AreOwn tables → SparesTables err)

pub spares-own : (told : Option Rows) (damage : Option (Table × ℕ)) (err : OpenErr) → NamesRefusal told damage err → SparesOwn told err
spares-own None damage err refused = tt
spares-own (Some tables) damage err refused = spared tables damage err refused

-- a refusal to load
pub spares-load : (told : Option Rows) (damage : Option (Table × ℕ)) (err : LoadErr) → NamesDamage told damage err → SparesOwn told (refusal_of_load err)
spares-load told damage loads.Failed named = spares-own told damage refusals.Failed tt
spares-load told damage (loads.Damaged table row) named = spares-own told damage (refusals.Damaged table row) named
spares-load told damage loads.NoMemory named = spares-own told damage refusals.NoMemory tt

-- the refusal comes back with the keeper
module _ {C K : Type 0} (told : K → Option Rows) (damage : K → Option (Table × ℕ)) where
  pub gives-back : (r : Result C (K × OpenErr)) (keeper : K) → IfErr r (λ back. NamesRefusal (told keeper) (damage keeper) back.1) → IfErr r (λ back. back.0 ≡ keeper) → IfErr r (λ back. SparesOwn (told back.0) back.1)
  gives-back (Ok core) keeper refused left = tt
  gives-back (Err back) keeper refused left = spares-own (told back.0) (damage back.0) back.1 (subst (λ (one : K). NamesRefusal (told one) (damage one) back.1) (sym left) refused)
