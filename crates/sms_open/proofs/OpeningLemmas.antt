-- Rows that pass all tests are an opening from which a desk may go on.
use Rattle.std.proofs.Common.{◌≡◌, ◌≤◌, ◌<◌, ◌^◌, ℕ, zero, suc, Bool, true, false, cond, List, [], ◌∷◌, Option, Result}
use Rattle.std.proofs.Common.{Ok, Err, length, max, filter, find, refl, sym, ap, ◌∙◌, subst, arith, inl, inr}
use Rattle.std.specs.Prelude.{◌==◌, IfOk, IfSome, nat_lt}
use Rattle.std.specs.List.{AllByRecursion}
use Rattle.std.proofs.lemmas.Bool.Decides.{nat_tests}
use Rattle.sms_construct.specs.Configuration.{Configuration, IsConfiguration}
use Rattle.sms_construct.specs.Fate.{fate_of}
use Rattle.sms_construct.specs.declared.fate.Fate.TheVariants.{Kept}
use Rattle.sms_construct.specs.declared.reply.Reply.{Reply}
use Rattle.sms_construct.specs.declared.reply.Reply.TheVariants as replies
use Rattle.deck_meaning.proofs.ConfigurationLemmas.{configured}
use Rattle.sms_keeper.specs.declared.deck_row.DeckRow.{DeckRow}
use Rattle.sms_keeper.specs.declared.floor.Floor.{Floor}
use Rattle.sms_keeper.specs.declared.kept_row.KeptRow.{KeptRow}
use Rattle.sms_keeper.specs.declared.rows.Rows.{Rows}
use Rattle.sms_keeper.specs.Tables.{is_floor_of, is_reply_of}
use Rattle.desk_law.specs.Decked.{IsDecked, IsLastActive}
use Rattle.desk_law.specs.Kept.{greatest_floor, is_entered, is_fault}
use Rattle.desk_law.specs.Lawful.{IsLawful}
use Rattle.desk_law.specs.Records.{AreKept, floor_rows, kept_rows, rows_found}
use Rattle.desk_law.specs.State.{start_of}
use Rattle.desk_law.proofs.ByteLemmas.{same-bytes}
use Rattle.desk_records.specs.Tied.{IsGoodRow, IsSoundOpening}
use Rattle.desk_records.proofs.KeyLemmas.{reply-key}
use Rattle.desk_records.proofs.TiedLemmas.{each-weaker}
use Rattle.sms_open.specs.declared.rows_err.RowsErr.{RowsErr}
use Rattle.sms_open.specs.declared.rows_err.RowsErr.TheVariants.{Unsound}
use Rattle.desk_restoring.specs.Opened.{greatest_place, opening_behind, opening_of}
use Rattle.sms_open.specs.Tests.{AreCounted, ArePlaced, AreSingle, AreSoundReplies, AreStatusesOf, IsSoundReply}
use Rattle.sms_open.specs.Tests.{most_place, times_floor, times_kept}
use Rattle.sms_open.specs.Verdicts.{IsVerdict, Tested}
use Rattle.sms_open.proofs.VerdictLemmas.{IsAnswer, from_counts, from_deck, from_end, from_replies, from_sets}

-- The tests that were passed.

on-test : (number : ℕ) (P : Type 0) (next : Result (Option Configuration) RowsErr → Type 0) (active : Option Configuration) → Tested number P next (Ok active) → P × next (Ok active)
on-test number P next active (inl bad) = absurd (let no = bad.1 in cc)
on-test number P next active (inr good) = good

pub record Passed (rows : Rows) (active : Option Configuration) : Type 0 where
  pub single : AreSingle rows
  pub counted : AreCounted rows
  pub last : IsLastActive rows.decks active
  pub statuses : AreStatusesOf active rows.statuses
  pub placed : ArePlaced active rows.sets
  pub replies : AreSoundReplies rows.replies rows.floors

ok-is : (a b : Option Configuration) (v : Result (Option Configuration) RowsErr) → v ≡ Ok a → v ≡ Ok b → b ≡ a
ok-is a b v one other = cc

-- under what the last deck configures
on-deck : (rows : Rows) (active : Option Configuration) → AreSingle rows → AreCounted rows → from_deck rows (Ok active) → Passed rows active
on-deck rows active single counted (inl bad) = absurd (let no : Ok active ≡ Err (Unsound 3) = bad.1 in cc)
on-deck rows active single counted (inr (now, last, verdict)) =
    let four = on-test 4 (AreStatusesOf now rows.statuses) (from_sets rows now) active verdict in
    let five = on-test 5 (ArePlaced now rows.sets) (from_replies rows now) active four.1 in
    let six = on-test 6 (AreSoundReplies rows.replies rows.floors) (from_end now) active five.1 in
    let same : now ≡ active = ok-is active now (Ok active) refl six.1 in
    record {
      single = single;
      counted = counted;
      last = subst (λ (o : Option Configuration). IsLastActive rows.decks o) same last;
      statuses = subst (λ (o : Option Configuration). AreStatusesOf o rows.statuses) same four.0;
      placed = subst (λ (o : Option Configuration). ArePlaced o rows.sets) same five.0;
      replies = six.0;
    }

pub passed-all : (rows : Rows) (active : Option Configuration) → IsVerdict rows (Ok active) → Passed rows active
passed-all rows active verdict =
    let one = on-test 1 (AreSingle rows) (from_counts rows) active verdict in
    let two = on-test 2 (AreCounted rows) (from_deck rows) active one.1 in
    on-deck rows active one.0 two.0 two.1

-- the verdict is what is configured
pub passes-all : (rows : Rows) (active : Option Configuration) → Passed rows active → IsVerdict rows (Ok active)
passes-all rows active p = inr (p.single, inr (p.counted, inr (active, p.last, inr (p.statuses, inr (p.placed, inr (p.replies, refl))))))

-- The configuration.

configured-is : (decks : List DeckRow) (active : Option Configuration) → IsLastActive decks active → IfSome active IsConfiguration
configured-is [] active is = subst (λ (o : Option Configuration). IfSome o IsConfiguration) (sym is) tt
configured-is (deck ∷ []) active is = subst (λ (o : Option Configuration). IfSome o IsConfiguration) (sym is.active_is) (configured is.configures)
configured-is (deck ∷ next ∷ decks) active is = configured-is (next ∷ decks) active is

pub lawful : (rows : Rows) (active : Option Configuration) → Passed rows active → IsLawful (start_of (opening_of rows active))
lawful rows active p = record {
  sets = p.placed.each;
  once = p.placed.once;
  names = p.single.names;
  statuses = p.statuses.each;
  connected = p.statuses.connected;
  config = configured-is rows.decks active p.last;
}

-- The replies.

entered-is : (reply : Reply) → fate_of reply ≡ Kept → is_entered reply ≡ true
entered-is reply is = rw is refl

no-fault-is : (reply : Reply) → fate_of reply ≡ Kept → is_fault reply ≡ false
no-fault-is (replies.Granted set trace) is = refl
no-fault-is (replies.NotManaged trace) is = refl
no-fault-is (replies.Extended added) is = refl
no-fault-is (replies.Deleted tracks) is = refl
no-fault-is (replies.Activated count) is = refl
no-fault-is (replies.Varied target status) is = refl
no-fault-is (replies.Shown view) is = refl
no-fault-is (replies.Purged job floor) is = refl
no-fault-is replies.Noted is = refl
no-fault-is (replies.Released tracks) is = refl
no-fault-is (replies.Reused first) is = refl
no-fault-is (replies.Below floor) is = refl
no-fault-is replies.NoConfig is = refl
no-fault-is replies.NameInUse is = refl
no-fault-is (replies.Exit kind code trace) is = refl
no-fault-is (replies.UnknownClass kind name trace) is = refl
no-fault-is (replies.NoQuantity trace) is = refl
no-fault-is (replies.NoGroup trace) is = refl
no-fault-is (replies.NoVolume trace) is = refl
no-fault-is replies.NotFound is = refl
no-fault-is (replies.NoExtend why) is = refl
no-fault-is (replies.Deck fault) is = refl
no-fault-is (replies.VolumeInUse volser) is = refl
no-fault-is replies.UnknownName is = refl
no-fault-is replies.JournalFull is = refl
no-fault-is (replies.PastGrant granted) is = refl
no-fault-is replies.KeeperFault is = absurd cc
no-fault-is replies.Memory is = refl

good-each : (floors : List Floor) (base : ℕ) (rows : List KeptRow) → greatest_place rows ≤ base → AllByRecursion (IsSoundReply floors) rows → AllByRecursion (IsGoodRow (λ job. greatest_floor job floors) base) rows
good-each floors base [] most all = tt
good-each floors base (row ∷ rows) most all = (
  record {
    place = omega (arith, most);
    entered = entered-is row.reply all.0.kept.fate;
    no_fault = no-fault-is row.reply all.0.kept.fate;
    floors_stand = all.0.told;
  },
  good-each floors base rows (omega (arith, most)) all.1,
)

most-place : (floors : List Floor) (rows : List KeptRow) → AllByRecursion (IsSoundReply floors) rows → greatest_place rows ≤ most_place
most-place floors [] all = omega arith
most-place floors (row ∷ rows) all = omega (arith, all.0.kept.within, most-place floors rows all.1)

none-kept-at : (job : List ℕ) (number : ℕ) (row : KeptRow) (rows : List KeptRow) (b : Bool) → is_reply_of job number row ≡ b → times_kept job number (row ∷ rows) ≡ 0 → (times_kept job number rows ≡ 0 → filter (is_reply_of job number) rows ≡ [])
    → filter (is_reply_of job number) (row ∷ rows) ≡ []
none-kept-at job number row rows true is none rest =
    let one : cond (is_reply_of job number row) 1 zero ≡ suc zero = rw is refl in
    absurd (omega (arith, one, none))
none-kept-at job number row rows false is none rest = rw is (rest (omega (arith, none)))

none-kept : (job : List ℕ) (number : ℕ) (rows : List KeptRow) → times_kept job number rows ≡ 0 → filter (is_reply_of job number) rows ≡ []
none-kept job number [] none = refl
none-kept job number (row ∷ rows) none = none-kept-at job number row rows _ refl none (none-kept job number rows)

-- the one row of a number, if there is one
one-kept-at : (job : List ℕ) (number : ℕ) (row : KeptRow) (rows : List KeptRow) (b : Bool) → is_reply_of job number row ≡ b → times_kept job number (row ∷ rows) ≤ 1
    → (times_kept job number rows ≤ 1 → filter (is_reply_of job number) rows ≡ rows_found (find (is_reply_of job number) rows))
    → filter (is_reply_of job number) (row ∷ rows) ≡ rows_found (find (is_reply_of job number) (row ∷ rows))
one-kept-at job number row rows true is once rest =
    let one : cond (is_reply_of job number row) 1 zero ≡ suc zero = rw is refl in
    rw is (ap (λ (l : List KeptRow). row ∷ l) (none-kept job number rows (omega (arith, one, once))))
one-kept-at job number row rows false is once rest = rw is (rest (omega (arith, once)))

one-kept : (job : List ℕ) (number : ℕ) (rows : List KeptRow) → times_kept job number rows ≤ 1 → filter (is_reply_of job number) rows ≡ rows_found (find (is_reply_of job number) rows)
one-kept job number [] once = refl
one-kept job number (row ∷ rows) once = one-kept-at job number row rows _ refl once (one-kept job number rows)

above-at : (floors : List Floor) (job : List ℕ) (number : ℕ) (row : KeptRow) (rows : List KeptRow) (b : Bool) → is_reply_of job number row ≡ b → nat_lt number (greatest_floor job floors) ≡ true → greatest_floor row.job floors ≤ row.number
    → filter (is_reply_of job number) rows ≡ [] → filter (is_reply_of job number) (row ∷ rows) ≡ []
above-at floors job number row rows true is below above rest =
    let key = reply-key row job number is in
    let up : greatest_floor job floors ≤ number = rw (key.0, key.1) at above in
    absurd (grind (arith, nat_tests, below, up))
above-at floors job number row rows false is below above rest = rw is rest

none-below : (floors : List Floor) (job : List ℕ) (number : ℕ) (rows : List KeptRow) → nat_lt number (greatest_floor job floors) ≡ true → AllByRecursion (IsSoundReply floors) rows → filter (is_reply_of job number) rows ≡ []
none-below floors job number [] below all = refl
none-below floors job number (row ∷ rows) below all = above-at floors job number row rows _ refl below all.0.above (none-below floors job number rows below all.1)

kept-at : (floors : List Floor) (job : List ℕ) (number : ℕ) (rows : List KeptRow) (b : Bool) → nat_lt number (greatest_floor job floors) ≡ b → AllByRecursion (IsSoundReply floors) rows → times_kept job number rows ≤ 1
    → filter (is_reply_of job number) rows ≡ kept_rows b (find (is_reply_of job number) rows)
kept-at floors job number rows true is all once = none-below floors job number rows is all
kept-at floors job number rows false is all once = one-kept job number rows once

-- The floors.

none-floor-at : (job : List ℕ) (f : Floor) (fs : List Floor) (b : Bool) → is_floor_of job f ≡ b → times_floor job (f ∷ fs) ≡ 0 → (times_floor job fs ≡ 0 → (filter (is_floor_of job) fs ≡ []) × (greatest_floor job fs ≡ 0))
    → (filter (is_floor_of job) (f ∷ fs) ≡ []) × (greatest_floor job (f ∷ fs) ≡ 0)
none-floor-at job f fs true is none rest =
    let one : cond (is_floor_of job f) 1 zero ≡ suc zero = rw is refl in
    absurd (omega (arith, one, none))
none-floor-at job f fs false is none rest = let both = rest (omega (arith, none)) in (rw is both.0, rw is both.1)

none-floor : (job : List ℕ) (fs : List Floor) → times_floor job fs ≡ 0 → (filter (is_floor_of job) fs ≡ []) × (greatest_floor job fs ≡ 0)
none-floor job [] none = (refl, refl)
none-floor job (f ∷ fs) none = none-floor-at job f fs _ refl none (none-floor job fs)

abbrev floor_row : List ℕ → ℕ → Floor
floor_row job floor = record { job = job; floor = floor }

own-row : (job : List ℕ) (f : Floor) (n : ℕ) → f.job ≡ job → n ≡ f.floor → 1 ≤ f.floor → f ∷ [] ≡ floor_rows job n
own-row job f n same is some =
    let off : (n == 0) ≡ false = grind (arith, nat_tests) in
    let row : f ≡ floor_row job n = ap (λ (j : List ℕ). floor_row j f.floor) same ∙ ap (λ (m : ℕ). floor_row job m) (sym is) in
    rw off (ap (λ (g : Floor). g ∷ []) row)

one-floor-at : (job : List ℕ) (f : Floor) (fs : List Floor) (b : Bool) → is_floor_of job f ≡ b → times_floor job (f ∷ fs) ≤ 1 → 1 ≤ f.floor
    → (times_floor job fs ≤ 1 → filter (is_floor_of job) fs ≡ floor_rows job (greatest_floor job fs)) → filter (is_floor_of job) (f ∷ fs) ≡ floor_rows job (greatest_floor job (f ∷ fs))
one-floor-at job f fs true is once some rest =
    let one : cond (is_floor_of job f) 1 zero ≡ suc zero = rw is refl in
    let none = none-floor job fs (omega (arith, one, once)) in
    let most : max f.floor (greatest_floor job fs) ≡ f.floor = omega (arith, none.1) in
    rw (is, none.0) (own-row job f _ (same-bytes f.job job is) most some)
one-floor-at job f fs false is once some rest = rw is (rest (omega (arith, once)))

one-floor : (job : List ℕ) (fs : List Floor) → times_floor job fs ≤ 1 → AllByRecursion (λ (f : Floor). 1 ≤ f.floor) fs → filter (is_floor_of job) fs ≡ floor_rows job (greatest_floor job fs)
one-floor job [] once some = refl
one-floor job (f ∷ fs) once some = one-floor-at job f fs _ refl once some.0 (λ few. one-floor job fs few some.1)

kept : (rows : Rows) (active : Option Configuration) → Passed rows active → AreKept rows.floors rows.replies rows.replies rows.floors
kept rows active p = record {
  replies_are = λ job number. kept-at rows.floors job number rows.replies _ refl p.replies.each (p.single.numbers job number);
  floors_are = λ job. one-floor job rows.floors (p.single.jobs job) p.replies.floors_stand;
}

sound-at : (rows : Rows) (active : Option Configuration) → length rows.decks < 2 ^ 63 → Passed rows active → IsSoundOpening (opening_of rows active)
sound-at rows active few p = record {
  lawful = lawful rows active p;
  good = good-each rows.floors (greatest_place rows.replies) rows.replies (omega arith) p.replies.each;
  kept = kept rows active p;
  base_fits = omega (arith, most-place rows.floors rows.replies p.replies.each);
  decks_fit = few;
}

-- entries that come behind a place too make no difference
pub sound-behind : (place : ℕ) (rows : Rows) (config : Option Configuration) → place < 2 ^ 63 → IsSoundOpening (opening_of rows config) → IsSoundOpening (opening_behind place rows config)
sound-behind place rows config low is =
    let fits : greatest_place rows.replies < 2 ^ 63 = is.base_fits in
    let floors = λ (job : List ℕ). greatest_floor job rows.floors in
    record {
      lawful = is.lawful;
      good = each-weaker (IsGoodRow floors (greatest_place rows.replies)) (IsGoodRow floors (max place (greatest_place rows.replies)))
          (λ row good. record { place = (let within : row.place ≤ greatest_place rows.replies = good.place in omega (arith, within)); entered = good.entered; no_fault = good.no_fault; floors_stand = good.floors_stand }) rows.replies is.good;
      kept = is.kept;
      base_fits = omega (arith, low, fits);
      decks_fit = is.decks_fit;
    }

pub decked-at : (rows : Rows) (active : Option Configuration) → Passed rows active → IsDecked rows.decks (start_of (opening_of rows active))
decked-at rows active p = record { counted = refl; numbered = p.counted.in_order; last = p.last }

-- rows that pass are a sound opening
pub sound : (rows : Rows) (result : Result (Option Configuration) RowsErr) → length rows.decks < 2 ^ 63 → IsAnswer (IsVerdict rows) result → IfOk result (λ active. IsSoundOpening (opening_of rows active))
sound rows (Ok active) few (inl verdict) = sound-at rows active few (passed-all rows active verdict)
sound rows (Ok active) few (inr none) = absurd cc
sound rows (Err err) few answer = tt

-- and their decks are those that led to it
pub decked : (rows : Rows) (result : Result (Option Configuration) RowsErr) → IsAnswer (IsVerdict rows) result → IfOk result (λ active. IsDecked rows.decks (start_of (opening_of rows active)))
decked rows (Ok active) (inl verdict) = decked-at rows active (passed-all rows active verdict)
decked rows (Ok active) (inr none) = absurd cc
decked rows (Err err) answer = tt
