-- The verdict that follows from what the tests tell, and that there is one.
use Rattle.std.proofs.Common.{◌≡◌, ℕ, Bool, true, false, List, [], ◌∷◌, Option, Some, Result, Ok, Err, refl, sym, ap}
use Rattle.std.proofs.Common.{◌∙◌, subst, inl, inr}
use Rattle.std.specs.Prelude.{◌⊎◌, IfOk}
use Rattle.sms_construct.specs.Configuration.{Configuration}
use Rattle.deck_meaning.proofs.ReadingLemmas.{never_both, one_configuration}
use Rattle.sms_keeper.specs.declared.deck_row.DeckRow.{DeckRow}
use Rattle.sms_keeper.specs.declared.rows.Rows.{Rows}
use Rattle.desk_law.specs.Decked.{IsLastActive}
use Rattle.sms_open.specs.declared.rows_err.RowsErr.{RowsErr}
use Rattle.sms_open.specs.declared.rows_err.RowsErr.TheVariants.{Unsound, NoMemory}
use Rattle.sms_open.specs.Tests.{AreCounted, ArePlaced, AreSingle, AreSoundReplies, AreStatusesOf, HasLastFault}
use Rattle.sms_open.specs.Verdicts.{Configured, IsVerdict, RefusesDeck, Tells, Tested, answer_of, answer_with}

-- an answer: the verdict, or want of memory
abbrev pub IsAnswer : (Result (Option Configuration) RowsErr → Type 0) → Result (Option Configuration) RowsErr → Type 0
IsAnswer verdict result = verdict result ⊎ (result ≡ Err NoMemory)

-- the test passes
pub passed : {E : Type 0} (number : ℕ) (P : Type 0) (r : Result Bool E) (u : Unit {0}) → answer_of number r ≡ Ok u → IfOk r (Tells P) → P
passed number P (Ok true) u is tells = tells
passed number P (Ok false) u is tells = absurd cc
passed number P (Err e) u is tells = absurd cc

-- the test doesn't pass, or memory is wanting
pub refused : {E : Type 0} (number : ℕ) (P : Type 0) (next : Result (Option Configuration) RowsErr → Type 0) (r : Result Bool E) (err : RowsErr) → answer_of number r ≡ Err err → IfOk r (Tells P)
    → IsAnswer (Tested number P next) (Err err)
refused number P next (Ok true) err is tells = absurd cc
refused number P next (Ok false) err is tells = let e : err ≡ Unsound number = cc in inl (inl (tells, ap Err e))
refused number P next (Err e) err is tells = let e : err ≡ NoMemory = cc in inr (ap Err e)

module _ (result : Result (Option Configuration) RowsErr) where
  -- on, behind a test that passed
  pub onward : (number : ℕ) (P : Type 0) (next : Result (Option Configuration) RowsErr → Type 0) → P → IsAnswer next result → IsAnswer (Tested number P next) result
  onward number P next pass (inl verdict) = inl (inr (pass, verdict))
  onward number P next pass (inr none) = inr none

  -- on, under what the last deck configures
  pub under : (number : ℕ) (decks : List DeckRow) (next : Option Configuration → Result (Option Configuration) RowsErr → Type 0) (active : Option Configuration) → IsLastActive decks active
      → IsAnswer (next active) result → IsAnswer (Configured number decks next) result
  under number decks next active is (inl verdict) = inl (inr (active, is, verdict))
  under number decks next active is (inr none) = inr none

-- the last deck has a fault, or memory is wanting
pub unread : (decks : List DeckRow) (next : Option Configuration → Result (Option Configuration) RowsErr → Type 0) (err : RowsErr) → RefusesDeck decks err → IsAnswer (Configured 3 decks next) (Err err)
unread decks next (Unsound number) refuses = inl (inl (refuses.1, ap (λ (n : ℕ). Err (Unsound n)) refuses.0))
unread decks next NoMemory refuses = inr refl

-- There is one verdict.

one-tested : (number : ℕ) (P : Type 0) (next : Result (Option Configuration) RowsErr → Type 0) (v w : Result (Option Configuration) RowsErr) → (next v → next w → v ≡ w)
    → Tested number P next v → Tested number P next w → v ≡ w
one-tested number P next v w one (inl a) (inl b) = a.1 ∙ sym b.1
one-tested number P next v w one (inl a) (inr b) = absurd (a.0 b.0)
one-tested number P next v w one (inr a) (inl b) = absurd (b.0 a.0)
one-tested number P next v w one (inr a) (inr b) = one a.1 b.1

-- the last deck configures one thing
pub one-active : (decks : List DeckRow) (active other : Option Configuration) → IsLastActive decks active → IsLastActive decks other → active ≡ other
one-active [] active other a b = a ∙ sym b
one-active (deck ∷ []) active other a b = a.active_is ∙ (ap Some (one_configuration a.configures b.configures) ∙ sym b.active_is)
one-active (deck ∷ next ∷ decks) active other a b = one-active (next ∷ decks) active other a b

-- and has no fault then
pub not-both : (decks : List DeckRow) (active : Option Configuration) → IsLastActive decks active → HasLastFault decks → ⊥
not-both [] active a fault = fault
not-both (deck ∷ []) active a fault = never_both a.configures fault.1
not-both (deck ∷ next ∷ decks) active a fault = not-both (next ∷ decks) active a fault

one-configured : (number : ℕ) (decks : List DeckRow) (next : Option Configuration → Result (Option Configuration) RowsErr → Type 0) (v w : Result (Option Configuration) RowsErr)
    → ((active : Option Configuration) → next active v → next active w → v ≡ w) → Configured number decks next v → Configured number decks next w → v ≡ w
one-configured number decks next v w one (inl a) (inl b) = a.1 ∙ sym b.1
one-configured number decks next v w one (inl a) (inr b) = absurd (not-both decks b.0 b.1 a.0)
one-configured number decks next v w one (inr a) (inl b) = absurd (not-both decks a.0 a.1 b.0)
one-configured number decks next v w one (inr a) (inr b) =
    let same : b.0 ≡ a.0 = one-active decks b.0 a.0 b.1 a.1 in
    one a.0 a.2 (subst (λ (o : Option Configuration). next o w) same b.2)

-- the verdict from each test on
abbrev pub from_end : Option Configuration → Result (Option Configuration) RowsErr → Type 0
from_end active verdict = verdict ≡ Ok active

abbrev pub from_replies : Rows → Option Configuration → Result (Option Configuration) RowsErr → Type 0
from_replies rows active = Tested 6 (AreSoundReplies rows.replies rows.floors) (from_end active)

abbrev pub from_sets : Rows → Option Configuration → Result (Option Configuration) RowsErr → Type 0
from_sets rows active = Tested 5 (ArePlaced active rows.sets) (from_replies rows active)

abbrev pub from_statuses : Rows → Option Configuration → Result (Option Configuration) RowsErr → Type 0
from_statuses rows active = Tested 4 (AreStatusesOf active rows.statuses) (from_sets rows active)

abbrev pub from_deck : Rows → Result (Option Configuration) RowsErr → Type 0
from_deck rows = Configured 3 rows.decks (from_statuses rows)

abbrev pub from_counts : Rows → Result (Option Configuration) RowsErr → Type 0
from_counts rows = Tested 2 (AreCounted rows) (from_deck rows)

pub one-verdict : (rows : Rows) (v w : Result (Option Configuration) RowsErr) → IsVerdict rows v → IsVerdict rows w → v ≡ w
one-verdict rows v w =
    one-tested 1 (AreSingle rows) (from_counts rows) v w
    (one-tested 2 (AreCounted rows) (from_deck rows) v w
    (one-configured 3 rows.decks (from_statuses rows) v w (λ active.
    one-tested 4 (AreStatusesOf active rows.statuses) (from_sets rows active) v w
    (one-tested 5 (ArePlaced active rows.sets) (from_replies rows active) v w
    (one-tested 6 (AreSoundReplies rows.replies rows.floors) (from_end active) v w (λ (a : v ≡ Ok active) (b : w ≡ Ok active). a ∙ sym b))))))

-- the verdict is answered, but for want of memory
pub exactly : (rows : Rows) (result verdict : Result (Option Configuration) RowsErr) → IsAnswer (IsVerdict rows) result → IsVerdict rows verdict → (result ≡ verdict) ⊎ (result ≡ Err NoMemory)
exactly rows result verdict (inl is) other = inl (one-verdict rows result verdict is other)
exactly rows result verdict (inr none) other = inr none

-- the last test tells of the last part of the verdict
pub last-test : {E : Type 0} (rows : Rows) (active : Option Configuration) (r : Result Bool E) (u : Result (Unit {0}) RowsErr) → u ≡ answer_of 6 r → IfOk r (Tells (AreSoundReplies rows.replies rows.floors)) → IsAnswer (from_replies rows active) (answer_with active u)
last-test rows active (Ok true) u is tells = rw is (inl (inr (tells, refl)))
last-test rows active (Ok false) u is tells = rw is (inl (inl (tells, refl)))
last-test rows active (Err e) u is tells = rw is (inr refl)
