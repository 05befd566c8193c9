-- What CREATE TABLE makes.
use Rattle.std.proofs.Common.{◌≡◌, ◌<◌, ◌+◌, ◌++◌, ◌||◌, ◌&&◌, ◌==◌, length, ℕ, zero, suc, Bool, List, [], ◌∷◌, codes}
use Rattle.std.proofs.Common.{cond, not, true, false, Ok, Err, Option, None, Some, slice_get, refl, sym, ap, subst, ◌∙◌}
use Rattle.std.proofs.Common.{inl, inr}
use Rattle.std.specs.List.{AllZip, list_any, position_from}
use Rattle.std.specs.Prelude.{is_some, option_and_then, slice_range}
use Rattle.sqlite.specs.Table.{Table}
use Rattle.sqlite.specs.Schema.{Schema}
use Rattle.sqlite.specs.Order.{Row}
use Rattle.sqlite.specs.Command.TheVariants.{CreateTable}
use Rattle.sqlite.specs.Change.{created, next_tree, KeepsRows}
use Rattle.sqlite.specs.Does.{Tally, lacks_sequence}
use Rattle.sqlite.specs.Effect.{Database}
use Rattle.sqlite.specs.Listing.{understood, reads_listing, listing_schema, if_select, is_select}
use Rattle.sqlite.specs.State.{State, Writes, Executes, ExecutesIn, text_of}
use Rattle.sqlite.specs.Rows.{sequence}
use Rattle.sqlite_catalog.specs.Listing.{IsTableRow}
use Rattle.sqlite_rules.specs.Lists.{Has}
use Rattle.sqlite_rules.proofs.ListLemmas.{has_right}
use Rattle.sqlite_schema.specs.Names.{same_name, table_named}
use Rattle.sqlite_ast.specs.declared.Statement.{Statement}
use Rattle.sqlite_ast.specs.declared.Statement.TheVariants as written
use Rattle.sqlite_ast.specs.declared.CreateTable.{CreateTable as Definition}
use Rattle.sqlite_syntax.specs.declared.statement.Parsed.{Parsed}
use Rattle.sqlite_schema.specs.declared.command.Command.{Command}
use Rattle.sqlite_schema.specs.declared.command.Returning.{Returning}
use Rattle.sqlite_resolve.specs.Compile as names
use Rattle.sqlite_resolve.specs.Define as define
use Rattle.sqlite_resolve.specs.Compile.{command, command_by, compiled, create_table, first, meaning, planned}
use Rattle.sqlite_resolve.specs.Compile.{returning, returning_by, table_defined_by, timed, timed_by, with_command}
use Rattle.sqlite_resolve.specs.Lowering.{Checked, and_then}
use Rattle.sqlite_resolve.specs.Scope.{Name}
use Rattle.sqlite_resolve.specs.declared.compiled.Compiled.{Compiled}
use Rattle.sqlite_resolve.specs.declared.error.CompileError.{CompileError}
use Rattle.sqlite_resolve.specs.declared.error.CompileError.TheVariants.{NoSuchTable, Exists, Misuse, Unsupported}
use Rattle.sqlite_tied.specs.Compute.{everything}
use Rattle.sqlite.proofs.Callers.{IsPlain, command_of, statement_of, runs_as}
use Rattle.keeper_statements.specs.declared.present.Present.{Present}
use Rattle.keeper_statements.specs.Schema.{sets_table, replies_table, decks_table, statuses_table, floors_table}
use Rattle.keeper_statements.specs.Steps.{HasMadeFirst, HasMadeLast, MakesTable, Provides, RunsUnless}
use Rattle.keeper_statements.proofs.RowLemmas.{went, same_value}

abbrev pub sets_text : List ℕ
sets_text = codes "CREATE TABLE sets (dsn TEXT PRIMARY KEY, rec BLOB NOT NULL) STRICT"

abbrev pub replies_text : List ℕ
replies_text = codes "CREATE TABLE replies (job TEXT NOT NULL, number INTEGER NOT NULL,\n  place INTEGER NOT NULL UNIQUE, request BLOB NOT NULL, reply BLOB NOT NULL,\n  PRIMARY KEY (job, number)) STRICT"

abbrev pub decks_text : List ℕ
decks_text = codes "CREATE TABLE decks (count INTEGER PRIMARY KEY, bytes BLOB NOT NULL) STRICT"

abbrev pub statuses_text : List ℕ
statuses_text = codes "CREATE TABLE statuses (kind INTEGER NOT NULL, name TEXT NOT NULL,\n  status INTEGER NOT NULL, PRIMARY KEY (kind, name)) STRICT"

abbrev pub floors_text : List ℕ
floors_text = codes "CREATE TABLE floors (job TEXT PRIMARY KEY, floor INTEGER NOT NULL) STRICT"

-- the text is CREATE TABLE without IF NOT EXISTS, and no more
abbrev makes_new : Statement → Bool
makes_new (written.CreateTable def) = not def.if_missing
makes_new _ = false

abbrev is_making : Checked Parsed → Bool
is_making (Ok p) = makes_new p.statement
is_making (Err e) = false

abbrev whole_text : List ℕ → Checked Parsed → List ℕ
whole_text text (Ok p) = slice_range text p.start p.end
whole_text text (Err e) = []

-- a text that makes this table
record IsMaking (text : List ℕ) (table : Table) : Type 0 where
  new : is_making (first text) ≡ true
  whole : whole_text text (first text) ≡ text
  defined : table_defined_by text ≡ Ok table

sets_make : IsMaking sets_text (record sets_table { tree = 0 })
unfolding everything
sets_make = record { new = refl; whole = refl; defined = refl }

replies_make : IsMaking replies_text (record replies_table { tree = 0 })
unfolding everything
replies_make = record { new = refl; whole = refl; defined = refl }

decks_make : IsMaking decks_text (record decks_table { tree = 0 })
unfolding everything
decks_make = record { new = refl; whole = refl; defined = refl }

statuses_make : IsMaking statuses_text (record statuses_table { tree = 0 })
unfolding everything
statuses_make = record { new = refl; whole = refl; defined = refl }

floors_make : IsMaking floors_text (record floors_table { tree = 0 })
unfolding everything
floors_make = record { new = refl; whole = refl; defined = refl }

then_ok : {A B : Type 0} (r : Checked A) (f : A → Checked B) (y : B) → and_then r f ≡ Ok y → (x : A) × (r ≡ Ok x) × (f x ≡ Ok y)
then_ok (Ok x) f y h = (x, refl, h)
then_ok (Err e) f y h = absurd cc

unless_ok : {A : Type 0} (b : Bool) (e : CompileError) (r : Checked A) (x : A) → cond b (Err e) r ≡ Ok x → r ≡ Ok x
unless_ok true e r x h = absurd cc
unless_ok false e r x h = h

-- the name is free
new_is : (name : Name) (same other : Option ℕ) (is_new : Bool) → names.creates false name same other ≡ Ok is_new → is_new ≡ true
unfolding names.creates
new_is name same other is_new h =
    let new : ◌≡◌ {A = Checked Bool} (Ok true) (Ok is_new) = unless_ok (is_some same) Exists (Ok true) is_new (unless_ok (is_some other) Exists _ is_new (unless_ok (names.is_reserved name) Misuse _ is_new h)) in
    cc

goes_on : (missing : Bool) (name : Name) (same other : Option ℕ) (f : Bool → Checked Command) (k : Command) → missing ≡ false → and_then (names.creates missing name same other) f ≡ Ok k → f true ≡ Ok k
goes_on missing name same other f k never h =
    let named = then_ok (names.creates missing name same other) f k h in
    let new : named.0 ≡ true = new_is name same other named.0 (ap (λ m. names.creates m name same other) (sym never) ∙ named.1) in
    ap f (sym new) ∙ named.2

defined_is : (r : Checked Table) (test : Table → Bool) (k : Command) → and_then r (λ t. cond (test t) (Ok CreateTable) (Err Unsupported)) ≡ Ok k → k ≡ CreateTable
defined_is (Err e) test k h = absurd cc
defined_is (Ok t) test k h = by (test t) h
  where
    by : (b : Bool) → ◌≡◌ {A = Checked Command} (cond b (Ok CreateTable) (Err Unsupported)) (Ok k) → k ≡ CreateTable
    by true h = cc
    by false h = absurd cc

table_is : (schema : Schema) (formats : List Name) (def : Definition) (k : Command) → def.if_missing ≡ false → create_table schema formats def ≡ Ok k → k ≡ CreateTable
unfolding create_table
table_is schema formats def k missing h =
    let on = goes_on def.if_missing def.name _ _ _ k missing (unless_ok (names.is_attached schema def.name) Unsupported _ k h) in
    defined_is (define.table formats def) (λ t. (length t.computed == length t.stamps.places) && not def.resolves) k on

not_false : (b : Bool) → not b ≡ true → b ≡ false
not_false true h = absurd cc
not_false false h = refl

command_is : (schema : Schema) (formats : List Name) (base : ℕ) (it : Statement) (k : Command) → makes_new it ≡ true → command_by schema formats base it ≡ Ok k → k ≡ CreateTable
command_is schema formats base (written.CreateTable def) k new h = table_is schema formats def k (not_false def.if_missing new) h
command_is schema formats base _ k new h = absurd cc

shown_is : (schema : Schema) (base : ℕ) (it : Statement) (shown : Option Returning) → makes_new it ≡ true → returning_by schema base it ≡ Ok shown → shown ≡ None
shown_is schema base (written.CreateTable def) shown new h = cc
shown_is schema base _ shown new h = absurd cc

untimed : (schema : Schema) (formats : List Name) (it : Statement) → makes_new it ≡ true → timed_by schema formats it ≡ []
untimed schema formats (written.CreateTable def) new = refl
untimed schema formats _ new = absurd cc

-- what such a text is understood as, under any schema
record IsMade (text : List ℕ) (c : Compiled) : Type 0 where
  is : c.command ≡ CreateTable
  plain : (c.returning ≡ None) × (c.formats ≡ [])
  whole : text_of text c ≡ text

made_is : (schema : Schema) (text : List ℕ) (table : Table) (c : Compiled) → IsMaking text table → compiled schema text ≡ Ok c → IsMade text c
unfolding compiled planned meaning command returning timed
made_is schema text table c making h =
    let read = then_ok _ _ c h in
    let p = read.0 in
    let new : makes_new p.statement ≡ true = ap is_making (sym read.1) ∙ making.new in
    let plan = then_ok _ _ c read.2 in
    let found = then_ok _ _ plan.0 plan.1 in
    let show = then_ok _ _ found.0 found.1 in
    let run = then_ok _ _ found.0 show.2 in
    let k : run.0 ≡ CreateTable = command_is schema p.formats _ p.statement run.0 new run.1 in
    let s : show.0 ≡ None = shown_is schema _ p.statement show.0 new show.1 in
    let t : timed_by schema p.formats p.statement ≡ [] = untimed schema p.formats p.statement new in
    let f : (run.0, show.0) ≡ found.0 = cc in
    let g : (timed_by schema p.formats p.statement, found.0) ≡ plan.0 = cc in
    let e : with_command p plan.0 ≡ c = cc in
    record {
      is = sym (ap (λ (c : Compiled). c.command) e) ∙ ap (λ q. q.1.0) (sym g) ∙ ap (λ q. q.0) (sym f) ∙ k;
      plain = (
        sym (ap (λ (c : Compiled). c.returning) e) ∙ ap (λ q. q.1.1) (sym g) ∙ ap (λ q. q.1) (sym f) ∙ s,
        sym (ap (λ (c : Compiled). c.formats) e) ∙ ap (λ q. q.0) (sym g) ∙ t,
      );
      whole = sym (ap (λ (c : Compiled). text_of text c) e) ∙ ap (whole_text text) (sym read.1) ∙ making.whole;
    }

-- it is no query, so it isn't read as one on the listing
no_select : (text : List ℕ) (table : Table) (r : Checked Compiled) (c : Compiled) → ((d : Compiled) → r ≡ Ok d → IsMade text d) → if_select r ≡ Ok c → ⊥
no_select text table (Ok d) c made h =
    let is = (made d refl).is in
    let e : ◌≡◌ {A = Checked Compiled} (Err NoSuchTable) (Ok c) = sym (ap (λ k. cond (is_select k) (Ok d) (Err NoSuchTable)) is) ∙ h in
    absurd cc
no_select text table (Err e) c made h = absurd cc

understood_is : (schema : Schema) (text : List ℕ) (table : Table) (c : Compiled) → IsMaking text table → understood schema text ≡ Ok c → IsMade text c
unfolding understood
understood_is schema text table c making h = by (reads_listing schema text) h
  where
    by : (b : Bool) → cond b (if_select (compiled listing_schema text)) (compiled schema text) ≡ Ok c → IsMade text c
    by true h = absurd (no_select text table (compiled listing_schema text) c (λ d is. made_is listing_schema text table d making is) h)
    by false h = made_is schema text table c making h

pub any_past : {X : Type 0} (p : X → Bool) (xs : List X) (x : X) → p x ≡ false → list_any p (xs ++ x ∷ []) ≡ list_any p xs
any_past p [] x out = ap (λ b. b || false) out
any_past p (y ∷ xs) x out = ap (λ b. p y || b) (any_past p xs x out)

position_left : {X : Type 0} (p : X → Bool) (xs ys : List X) (start at : ℕ) → position_from p start xs ≡ Some at → position_from p start (xs ++ ys) ≡ Some at
position_left p [] ys start at e = absurd cc
position_left {X} p (x ∷ xs) ys start at e = by (p x) e (λ f. position_left p xs ys (start + 1) at f)
  where
    by : (b : Bool) → cond b (Some start) (position_from p (start + 1) xs) ≡ Some at → (position_from p (start + 1) xs ≡ Some at → position_from p (start + 1) (xs ++ ys) ≡ Some at)
        → cond b (Some start) (position_from p (start + 1) (xs ++ ys)) ≡ Some at
    by true e more = e
    by false e more = more e

get_left : {X : Type 0} (xs ys : List X) (at : ℕ) (x : X) → slice_get xs at ≡ Some x → slice_get (xs ++ ys) at ≡ Some x
get_left [] ys at x e = absurd cc
get_left (y ∷ xs) ys zero x e = e
get_left (y ∷ xs) ys (suc at) x e = get_left xs ys at x e

-- SQLite's own table stays where it is
sequence_stays : (schema : Schema) (table : Table) → is_some (sequence schema) ≡ true → is_some (sequence (created schema table)) ≡ true
sequence_stays schema table has = by (table_named schema (codes "sqlite_sequence")) refl
  where
    got : (at : ℕ) → table_named schema (codes "sqlite_sequence") ≡ Some at → (o : Option Table) → slice_get schema.tables at ≡ o → is_some (sequence (created schema table)) ≡ true
    got at is None none = absurd (let e : false ≡ true = sym (ap (λ o. is_some (option_and_then (slice_get schema.tables) o)) is ∙ ap is_some none) ∙ has in cc)
    got at is (Some t) some =
        ap (λ o. is_some (option_and_then (slice_get (schema.tables ++ record table { tree = next_tree schema } ∷ [])) o))
        (position_left (λ (t : Table). same_name t.name (codes "sqlite_sequence")) schema.tables (record table { tree = next_tree schema } ∷ []) 0 at is)
        ∙ ap is_some (get_left schema.tables (record table { tree = next_tree schema } ∷ []) at t some)

    by : (o : Option ℕ) → table_named schema (codes "sqlite_sequence") ≡ o → is_some (sequence (created schema table)) ≡ true
    by None is = absurd (let e : false ≡ true = sym (ap (λ o. is_some (option_and_then (slice_get schema.tables) o)) is) ∙ has in cc)
    by (Some at) is = got at is (slice_get schema.tables at) refl

never_both : (a b c d : Bool) → c ≡ a → (b ≡ true → d ≡ true) → (a && not b) ≡ false → (c && not d) ≡ false
never_both true true c d same on none = rw (on refl) (and_none c)
  where
    and_none : (x : Bool) → (x && false) ≡ false
    and_none true = refl
    and_none false = refl
never_both true false c d same on none = absurd cc
never_both false b c d same on none = ap (λ x. x && not d) same

pub still_whole : (schema : Schema) (table : Table) → table.is_counted ≡ false → lacks_sequence schema ≡ false → lacks_sequence (created schema table) ≡ false
still_whole schema table never none =
    never_both (list_any (λ (t : Table). t.is_counted) schema.tables) (is_some (sequence schema)) (list_any (λ (t : Table). t.is_counted) (created schema table).tables) (is_some (sequence (created schema table)))
    (any_past (λ (t : Table). t.is_counted) schema.tables (record table { tree = next_tree schema }) never) (sequence_stays schema table) none

-- a listed table has a low number
listed_low : (rows : List Row) (tables : List Table) (t : Table) → AllZip IsTableRow rows tables → Has tables t → t.tree < 65536
listed_low rows [] t all h = absurd h
listed_low [] (u ∷ tables) t all h = absurd all
listed_low (r ∷ rows) (u ∷ tables) t all (inl same) = subst (λ (t : Table). t.tree < 65536) (sym same) all.0.described.low
listed_low (r ∷ rows) (u ∷ tables) t all (inr later) = listed_low rows tables t all.1 later

creates : (text : List ℕ) (table : Table) → IsMaking text (record table { tree = 0 }) → (old new : State) (count : ℕ) → table.is_counted ≡ false → Executes text [] old new (Ok count) → MakesTable table old.now new.now
unfolding ExecutesIn
creates text table making old new count never h whole =
    let before = old.now.schema in
    let known = h.1.is in
    let it = understood_is before text (record table { tree = 0 }) h.0 making known in
    let w = subst (λ t. Writes old new None CreateTable t [] count) (ap (statement_of text) known ∙ it.whole)
    (runs_as text [] old new before refl CreateTable (ap command_of known ∙ it.is) (subst IsPlain (sym known) it.plain) count h) in
    let all = went w.changed in
    let first = went all.1 in
    let made = first.1 in
    let plain : Table = record table { tree = 0 } in
    let same : made.table ≡ plain = same_value (sym made.defined ∙ making.defined) in
    let schema : first.0.schema ≡ created before table = made.is ∙ ap (created before) same in
    let none : lacks_sequence first.0.schema ≡ false = ap lacks_sequence schema ∙ still_whole before table never whole in
    let now : new.now ≡ first.0 = ap (λ (p : Tally × Database). p.1) (same_value all.2) ∙ same_value (rw none at first.2) in
    let made_is = ap (λ (d : Database). d.schema) now ∙ schema in
    let last : Table = record table { tree = next_tree before } in
    record {
      schema = made_is;
      low = listed_low _ new.now.schema.tables last w.sound.lists.listed.tables (subst (λ (s : Schema). Has s.tables last) (sym made_is) (has_right before.tables (last ∷ []) last (inl refl)));
      empty = ap (λ (d : Database). d.trees (next_tree before)) now ∙ made.empty;
      others = subst (λ (d : Database). KeepsRows before.tables old.now.trees d.trees) (sym now) made.others;
      sound = w.sound;
    }

-- a table that is made unless it is there
provides : (text : List ℕ) (table : Table) → IsMaking text (record table { tree = 0 }) → (is_there : Bool) (old new : State) → table.is_counted ≡ false → RunsUnless is_there text old new
    → Provides is_there table old.now new.now
provides text table making is_there old new never h = record {
  stays = h.stays;
  made = λ missing. let it = h.ran missing in creates text table making old new it.0 never it.1;
}

pub made_first : (there : Present) (a b c d : State) → RunsUnless there.sets sets_text a b → RunsUnless there.replies replies_text b c → RunsUnless there.decks decks_text c d
    → HasMadeFirst there a.now d.now
made_first there a b c d h k l = record {
  one = b.now;
  two = c.now;
  sets = provides sets_text sets_table sets_make there.sets a b refl h;
  replies = provides replies_text replies_table replies_make there.replies b c refl k;
  decks = provides decks_text decks_table decks_make there.decks c d refl l;
}

pub made_last : (there : Present) (a b c : State) → RunsUnless there.statuses statuses_text a b → RunsUnless there.floors floors_text b c → HasMadeLast there a.now c.now
made_last there a b c h k = record {
  one = b.now;
  statuses = provides statuses_text statuses_table statuses_make there.statuses a b refl h;
  floors = provides floors_text floors_table floors_make there.floors b c refl k;
}
