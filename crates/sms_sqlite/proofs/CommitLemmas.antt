-- A transaction from its beginning to its end.
use Rattle.std.proofs.Common.{◌≡◌, false, [], Ok, Err, Result, OnOk, OnErr, Some, IsTrue, inl, inr, refl, sym, ap}
use Rattle.std.proofs.Common.{subst, ◌∙◌}
use Rattle.sqlite.specs.Effect.{Database, IsDatabase}
use Rattle.sqlite.specs.Schema.{Schema}
use Rattle.sqlite.specs.State.{State, Shows, KeepsCounts, Survives}
use Rattle.sqlite.specs.Tree.{Trees}
use Rattle.sqlite.specs.declared.error.Error.{Error}
use Rattle.sms_keeper.specs.Tables.{with_change, keep_row, row_of}
use Rattle.sms_keeper.specs.declared.change.Change.{Change}
use Rattle.sms_keeper.specs.declared.rows.Rows.{Rows}
use Rattle.keeper_statements.proofs.EditLemmas.{rest_itself, rest_then}
use Rattle.keeper_statements.proofs.GrowLemmas.{all_sound, made_ready, made_same, made_sound}
use Rattle.keeper_statements.specs.Presence.{present_in}
use Rattle.keeper_statements.specs.Steps.{LeavesRest}
use Rattle.sms_sqlite.specs.Reading.{IsMadeReady}
use Rattle.sms_sqlite.specs.Told.{tables_of}
use Rattle.sms_sqlite.specs.Values.{rows_of}
use Rattle.sms_sqlite.specs.Writing.{Holds, HoldsLike, AreAlike, HasRows, IsAsBefore, IsChangeLeft, IsCommitted}
use Rattle.sms_sqlite.specs.Writing.{IsMadeLeft, IsSettled, with_effect, with_row, with_trees}
use Rattle.sms_sqlite.proofs.TablesLemmas.{alike_self, alike_then}
use Rattle.sms_sqlite.proofs.ToldLemmas.{alike_same, reads_of, same_self_rows, tables_of_holds}

-- the last state of the transaction is the committed one
pub commit_made : (old : Database) (last end : State) (rows : Rows) (done : Result (Unit {0}) Error) → HoldsLike old last.now rows
    → OnOk done (IsTrue last.in_transaction × Shows last end last.now last.now false × KeepsCounts last end × (end.marks ≡ [])) → OnOk done (IsCommitted old end rows)
commit_made old last end rows (Ok x) holds shown = record {
  holds = subst (λ (db : Database). HoldsLike old db rows) (sym shown.1.now_is) holds;
  committed = shown.1.committed_is ∙ sym shown.1.now_is;
  is_open = shown.1.is_open;
}
commit_made old last end rows (Err e) holds shown = tt

-- so they are beside what the last state held
pub commit_kept : (last end : State) (rows : Rows) (done : Result (Unit {0}) Error) → HoldsLike last.now last.now rows
    → OnOk done (IsTrue last.in_transaction × Shows last end last.now last.now false × KeepsCounts last end × (end.marks ≡ [])) → OnOk done (IsCommitted end.now end rows)
commit_kept last end rows (Ok x) holds shown = subst (λ (db : Database). IsCommitted db end rows) (sym shown.1.now_is) (commit_made last.now last end rows (Ok x) holds shown)
commit_kept last end rows (Err e) holds shown = tt

-- the tables made in the last state are committed
pub made_committed : (old : Database) (last end : State) (done : Result (Unit {0}) Error) → IsMadeReady old last.now
    → OnOk done (IsTrue last.in_transaction × Shows last end last.now last.now false × KeepsCounts last end × (end.marks ≡ [])) → OnOk done (IsMadeReady old end.now)
made_committed old last end (Ok x) made shown = subst (IsMadeReady old) (sym shown.1.now_is) made
made_committed old last end (Err e) made shown = tt

-- committed and open: a stop leaves that alone
pub settled_by : {X E : Type 0} (new : State) (r : Result X E) → OnOk r (IsTrue new.is_open) → OnOk r (new.committed ≡ new.now)
    → (IsTrue new.is_open → (db : Trees) → new.may_leave db → db ≡ new.committed.trees) → OnOk r (IsSettled new)
settled_by new (Ok x) is_open committed alone = record {
  is_open = is_open;
  committed = committed;
  alone = λ db left. alone is_open db left ∙ ap (λ (d : Database). d.trees) committed;
}
settled_by new (Err e) is_open committed alone = tt

pub refused_by : {X E : Type 0} (old new : State) (r : Result X E) → OnErr r (new.now ≡ old.now) → OnErr r (new.committed ≡ old.committed) → OnErr r (IsAsBefore old new)
refused_by old new (Ok x) now committed = tt
refused_by old new (Err e) now committed = record { now = now; committed = committed }

-- what the last state holds is what a stop in the commit may leave
last_rows : (old : Database) (last : State) (rows : Rows) (db : Trees) → HoldsLike old last.now rows → db ≡ last.now.trees → HasRows old (with_trees old db) rows
last_rows old last rows db holds is = record {
  found = holds.found;
  read = (λ i. tables_of (record { schema = sym holds.rest.schema i; trees = is i })) ∙ tables_of_holds last.now holds.found holds.holds;
  same = alike_same holds.found rows holds.alike;
  sound = λ sound. subst IsDatabase (λ i. let db : Database = record { schema = holds.rest.schema i; trees = sym is i } in db) (holds.rest.sound sound);
}

pub last_left : (old : Database) (last : State) (rows : Rows) (db : Trees) → HoldsLike old last.now rows → db ≡ last.now.trees → IsChangeLeft old db rows
last_left old last rows db holds is = record {
  rest = subst (LeavesRest old) (λ i. let db : Database = record { schema = holds.rest.schema i; trees = sym is i } in db) holds.rest;
  has = last_rows old last rows db holds is;
}

-- the row of a reply is added to alike rows alike
row_alike : (change : Change) (a b : Rows) → AreAlike a b → AreAlike (with_row change a) (with_row change b)
row_alike change a b p = record {
  sets = p.sets;
  replies = λ i. keep_row (p.floors i) (row_of change) (p.replies i);
  decks = p.decks;
  statuses = p.statuses;
  floors = p.floors;
}

-- the effect, and then the row
pub both_made : (change : Change) (old mid new : Database) (rows : Rows) → HoldsLike old mid (with_effect change rows) → ((found : Rows) → Holds mid found → HoldsLike mid new (with_row change found))
    → HoldsLike old new (with_change rows change)
both_made change old mid new rows first second =
    let next = second first.found first.holds in
    record { rest = rest_then old mid new first.rest next.rest; found = next.found; holds = next.holds; alike = alike_then _ _ _ next.alike (row_alike change first.found (with_effect change rows) first.alike) }

-- the tables that weren't there were made: what was told stands
pub ready_like : (old new : Database) (rows : Rows) → IsMadeReady old new → tables_of old ≡ Some rows → HoldsLike new new rows
ready_like old new rows made told =
    let it = reads_of old rows told in
    record {
      rest = rest_itself new;
      found = rows;
      holds = record { ready = made_ready old new it.serves made; read = ap rows_of (made_same old new it.serves made) ∙ it.read };
      alike = alike_self rows;
    }

-- a stop in their making leaves the trees of such a database
pub ready_left : (old new : Database) (db : Trees) → IsMadeReady old new → db ≡ new.trees → IsMadeLeft old db
ready_left old new db made is = record {
  schema = new.schema;
  made = subst (λ (t : Trees). IsMadeReady old (with_trees new t)) (sym is) made;
  sound = λ whole sound. subst (λ (t : Trees). IsDatabase (with_trees new t)) (sym is) (all_sound (present_in old.schema.tables) old new made whole sound);
  rows = λ rows told.
      let it = reads_of old rows told in
      let holds : Holds new rows = record { ready = made_ready old new it.serves made; read = ap rows_of (made_same old new it.serves made) ∙ it.read } in
      record { found = rows; read = ap (λ (t : Trees). tables_of (with_trees new t)) is ∙ tables_of_holds new rows holds; same = same_self_rows rows; sound = λ sound. subst (λ (t : Trees). IsDatabase (with_trees new t)) (sym is) (made_sound old new it.serves made sound) };
}

pub survives_weaker : (old new : State) (P Q : Trees → Type 0) → ((db : Trees) → P db → Q db) → Survives old new P → Survives old new Q
survives_weaker old new P Q f s = record {
  clean = s.clean;
  shield = s.shield;
  counts = s.counts;
  limit = s.limit;
  closes = s.closes;
  crash = λ clean db left. elim (s.crash clean db left) [ inl before ↦ inl before | inr has ↦ inr (f db has) ];
}
