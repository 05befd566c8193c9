-- What follows of an answer, whatever it is, and of one effect behind the other.
use Rattle.std.proofs.Common.{◌≡◌, ◌++◌, ◌∷◌, [], ℕ, ℤ, pos, Bool, true, false, cond, arith, inl, not, append-nil, List}
use Rattle.std.proofs.Common.{Ok, Err, Result, OnOk, filter, refl, ap, ap₂, sym, subst, ◌∙◌}
use Rattle.std.specs.List.{list_any}
use Rattle.sqlite.specs.Effect.{Database}
use Rattle.sqlite.specs.Schema.{Schema}
use Rattle.sqlite.specs.State.{State, Survives}
use Rattle.sqlite.specs.declared.error.Error.{Error}
use Rattle.sms_keeper.specs.Tables.{is_below_floor, row_of, is_deck, is_reply_below, put_floor, sets_with, replies_left}
use Rattle.sms_keeper.specs.Tables.{decks_added, statuses_with, floors_with}
use Rattle.sms_keeper.specs.declared.change.Change.{Change}
use Rattle.sms_keeper.specs.declared.deck_row.DeckRow.{DeckRow}
use Rattle.sms_keeper.specs.declared.effect.Effect.{Effect}
use Rattle.sms_keeper.specs.declared.effect.Effect.TheVariants as effects
use Rattle.sms_keeper.specs.declared.rows.Rows.{Rows}
use Rattle.sms_keeper.specs.declared.status_row.StatusRow.{StatusRow}
use Rattle.keeper_statements.specs.Steps.{LeavesRest, StaysInside, Makes}
use Rattle.keeper_statements.proofs.EditLemmas.{rest_itself, rest_then}
use Rattle.keeper_statements.specs.Tables.{Tables, tables_in}
use Rattle.keeper_statements.specs.Tests.{is_above}
use Rattle.sms_sqlite.specs.Writing.{Holds, HoldsLike, AreAlike, MayLead, with_effect, with_row}
use Rattle.sms_sqlite.specs.Values.{floor_in}
use Rattle.sms_sqlite.proofs.DeckLemmas.{filter_append}
use Rattle.sms_sqlite.proofs.ReadLemmas.{each_any}
use Rattle.sms_sqlite.proofs.TablesLemmas.{are_read, alike_self, alike_then}
use Rattle.sms_sqlite.proofs.ValueLemmas.{above_alike}

pub on_both : {T E P Q R : Type 0} (r : Result T E) → (P → Q → R) → OnOk r P → OnOk r Q → OnOk r R
on_both (Ok x) f p q = f p q
on_both (Err e) f p q = tt

pub stays_then : {Y Z : Type 0} (a b c : State) (q : Result Y Error) (r : Result Z Error) → StaysInside a b q → StaysInside b c r → StaysInside a c r
stays_then a b c q r one two = record {
  inside = two.inside;
  was_open = λ h. one.was_open (two.was_open h);
  committed = λ h. two.committed h ∙ one.committed (two.was_open h);
}

pub survives_itself : (s : State) → Survives s s (λ _. ⊥)
survives_itself s = record { clean = omega arith; shield = λ h. h; counts = omega arith; limit = refl; closes = λ clean h. inl h; crash = λ clean db h. inl h }

pub makes_then : (f h : Tables → Tables) (a b c : Database) → Makes f a b → Makes h b c → Makes (λ t. h (f t)) a c
makes_then f h a b c one two = record { ready = two.ready; rest = rest_then a b c one.rest two.rest; tables = two.tables ∙ ap h one.tables }

pub holds_self : (db : Database) (rows : Rows) → Holds db rows → HoldsLike db db rows
holds_self db rows holds = record { rest = rest_itself db; found = rows; holds = holds; alike = alike_self rows }

-- an effect that is nothing leads to the same rows
pub nothing_leads : (change : Change) (db : Database) (rows : Rows) → change.effect ≡ effects.Nothing → Holds db rows → HoldsLike db db (with_effect change rows)
nothing_leads change db rows is holds = subst (HoldsLike db db) same (holds_self db rows holds)
  where
    same : rows ≡ with_effect change rows
    same =
        ap (λ (decks : List DeckRow). let r : Rows = record rows { decks = decks } in r) (sym (append-nil rows.decks))
        ∙ ap
        (λ (effect : Effect).
        let r : Rows = record {
          sets = sets_with effect rows.sets;
          replies = replies_left effect rows.replies;
          decks = rows.decks ++ decks_added change.request.op effect;
          statuses = statuses_with effect rows.statuses;
          floors = floors_with effect rows.floors;
        } in r) (sym is)

-- whether a row is kept, as the search for a higher floor tells

kept_as : (change : Change) (rows : Rows) (b : Bool) → list_any (is_below_floor change.request.job change.request.number) rows.floors ≡ b
    → with_row change rows ≡ record rows { replies = cond b rows.replies (rows.replies ++ row_of change ∷ []) }
kept_as change rows b is = ap (λ c. let r : Rows = record rows { replies = cond c rows.replies (rows.replies ++ row_of change ∷ []) } in r) is

above_is : (change : Change) (old : Database) (rows : Rows) (job : List ℕ) (number : ℤ) (b above : Bool) → job ≡ change.request.job → number ≡ pos change.request.number
    → above ≡ list_any (is_above job number) (tables_in old).floors → above ≡ b → Holds old rows → list_any (is_below_floor change.request.job change.request.number) rows.floors ≡ b
above_is change old rows job number b above p q answer is holds =
    sym (each_any floor_in (is_above change.request.job (pos change.request.number)) (is_below_floor change.request.job change.request.number)
    (above_alike change.request.job change.request.number) (tables_in old).floors rows.floors (are_read (tables_in old) rows holds.read).floors)
    ∙ sym (ap₂ (λ j n. list_any (is_above j n) (tables_in old).floors) p q) ∙ sym answer ∙ is

pub not_kept : (change : Change) (old new : Database) (rows : Rows) (job : List ℕ) (number : ℤ) (above : Bool) → job ≡ change.request.job → number ≡ pos change.request.number
    → above ≡ list_any (is_above job number) (tables_in old).floors → above ≡ true → new ≡ old → Holds old rows → HoldsLike old new (with_row change rows)
not_kept change old new rows job number above p q answer is same holds =
    subst (HoldsLike old new) (sym (kept_as change rows true (above_is change old rows job number true above p q answer is holds)))
    (subst (λ db. HoldsLike old db rows) (sym same) (holds_self old rows holds))

pub is_kept : (change : Change) (old mid new : Database) (rows : Rows) (job : List ℕ) (number : ℤ) (above : Bool) → job ≡ change.request.job → number ≡ pos change.request.number
    → above ≡ list_any (is_above job number) (tables_in old).floors → above ≡ false → Holds old rows → mid ≡ old
    → HoldsLike mid new (record rows { replies = rows.replies ++ row_of change ∷ [] }) → HoldsLike old new (with_row change rows)
is_kept change old mid new rows job number above p q answer is holds same added =
    subst (HoldsLike old new) (sym (kept_as change rows false (above_is change old rows job number false above p q answer is holds)))
    (subst (λ (db : Database). HoldsLike db new (record rows { replies = rows.replies ++ row_of change ∷ [] })) same added)

-- statuses replaced, and then a deck added
pub deck_behind : (old mid new : Database) (rows : Rows) (statuses : List StatusRow) (deck : DeckRow) (found : Rows) → LeavesRest old mid → AreAlike found (record rows { statuses = statuses })
    → HoldsLike mid new (record found { decks = found.decks ++ deck ∷ [] }) → HoldsLike old new (record rows { decks = rows.decks ++ deck ∷ []; statuses = statuses })
deck_behind old mid new rows statuses deck found stays alike next = record {
  rest = rest_then old mid new stays next.rest;
  found = next.found;
  holds = next.holds;
  alike = alike_then _ _ _ next.alike (record {
    sets = alike.sets;
    replies = alike.replies;
    decks = λ count. filter_append (is_deck count) found.decks (deck ∷ []) ∙ ap (λ (l : List DeckRow). l ++ filter (is_deck count) (deck ∷ [])) (alike.decks count)
        ∙ sym (filter_append (is_deck count) rows.decks (deck ∷ []));
    statuses = alike.statuses;
    floors = alike.floors;
  });
}

-- a floor set, and the replies below it dropped

abbrev raised : List ℕ → ℕ → Rows → Rows
raised job floor rows = record rows { replies = filter (λ row. not (is_reply_below job floor row)) rows.replies; floors = put_floor job floor rows.floors }

raised_is : (change : Change) (job : List ℕ) (floor : ℕ) (rows : Rows) → change.effect ≡ effects.Floor job floor → raised job floor rows ≡ with_effect change rows
raised_is change job floor rows is =
    ap (λ (decks : List DeckRow). let r : Rows = record (raised job floor rows) { decks = decks } in r) (sym (append-nil rows.decks))
    ∙ ap
    (λ (effect : Effect).
    let r : Rows = record {
      sets = sets_with effect rows.sets;
      replies = replies_left effect rows.replies;
      decks = rows.decks ++ decks_added change.request.op effect;
      statuses = statuses_with effect rows.statuses;
      floors = floors_with effect rows.floors;
    } in r) (sym is)

pub floor_leads : {X : Type 0} (change : Change) (job : List ℕ) (floor : ℕ) (old new : State) (r : Result X Error) → change.effect ≡ effects.Floor job floor
    → MayLead (raised job floor) old new r → MayLead (with_effect change) old new r
floor_leads change job floor old new r is leads clean inside rows holds =
    subst (λ (after : Rows). OnOk r (HoldsLike old.now new.now after)) (raised_is change job floor rows is) (leads clean inside rows holds)
