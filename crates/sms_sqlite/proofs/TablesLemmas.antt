-- The tables, part by part.
use Rattle.std.proofs.Common.{◌≡◌, List, Some, refl, ap, ◌∙◌}
use Rattle.sqlite.specs.Effect.{Database}
use Rattle.sms_construct.specs.declared.data_set.DataSet.{DataSet}
use Rattle.sms_keeper.specs.declared.deck_row.DeckRow.{DeckRow}
use Rattle.sms_keeper.specs.declared.floor.Floor.{Floor}
use Rattle.sms_keeper.specs.declared.kept_row.KeptRow.{KeptRow}
use Rattle.sms_keeper.specs.declared.rows.Rows.{Rows}
use Rattle.sms_keeper.specs.declared.status_row.StatusRow.{StatusRow}
use Rattle.sms_records.specs.Inner.FormLaws.{bind_some, some_is}
use Rattle.keeper_statements.specs.Steps.{Makes}
use Rattle.keeper_statements.specs.Tables.{Tables, tables_in}
use Rattle.sms_sqlite.specs.Values.{each_in, set_in, reply_in, deck_in, status_in, floor_in, rows_of}
use Rattle.sms_sqlite.specs.Writing.{Holds, HoldsLike, AreAlike}

-- what each table reads as
pub record AreRead (t : Tables) (rows : Rows) : Type 0 where
  pub sets : each_in set_in t.sets ≡ Some rows.sets
  pub replies : each_in reply_in t.replies ≡ Some rows.replies
  pub decks : each_in deck_in t.decks ≡ Some rows.decks
  pub statuses : each_in status_in t.statuses ≡ Some rows.statuses
  pub floors : each_in floor_in t.floors ≡ Some rows.floors

abbrev rows_with : List DataSet → List KeptRow → List DeckRow → List StatusRow → List Floor → Rows
rows_with a b c d e = record { sets = a; replies = b; decks = c; statuses = d; floors = e }

pub are_read : (t : Tables) (rows : Rows) → rows_of t ≡ Some rows → AreRead t rows
are_read t rows e =
    let a = bind_some _ _ rows e in
    let b = bind_some _ _ rows a.2 in
    let c = bind_some _ _ rows b.2 in
    let d = bind_some _ _ rows c.2 in
    let f = bind_some _ _ rows d.2 in
    let is : rows_with a.0 b.0 c.0 d.0 f.0 ≡ rows = some_is _ rows f.2 in
    record {
      sets = a.1 ∙ ap (λ (r : Rows). Some r.sets) is;
      replies = b.1 ∙ ap (λ (r : Rows). Some r.replies) is;
      decks = c.1 ∙ ap (λ (r : Rows). Some r.decks) is;
      statuses = d.1 ∙ ap (λ (r : Rows). Some r.statuses) is;
      floors = f.1 ∙ ap (λ (r : Rows). Some r.floors) is;
    }

pub reads_as : (t : Tables) (rows : Rows) → AreRead t rows → rows_of t ≡ Some rows
reads_as t rows r = rw (r.sets, r.replies, r.decks, r.statuses, r.floors) refl

-- rows like those that the tables read as
pub record AreLike (t : Tables) (rows : Rows) : Type 0 where
  pub found : Rows
  pub read : AreRead t found
  pub alike : AreAlike found rows

-- a change of the tables that reads as a change of the rows
pub makes_like : (change : Tables → Tables) (old new : Database) (before after : Rows) → Makes change old new → Holds old before → (AreRead (tables_in old) before → AreLike (change (tables_in old)) after)
    → HoldsLike old new after
makes_like change old new before after makes holds f =
    let it = f (are_read (tables_in old) before holds.read) in
    record {
      rest = makes.rest;
      found = it.found;
      holds = record { ready = makes.ready; read = ap rows_of makes.tables ∙ reads_as (change (tables_in old)) it.found it.read };
      alike = it.alike;
    }

pub alike_self : (rows : Rows) → AreAlike rows rows
alike_self rows = record { sets = refl; replies = refl; decks = λ count. refl; statuses = λ target. refl; floors = refl }

pub alike_then : (a b c : Rows) → AreAlike a b → AreAlike b c → AreAlike a c
alike_then a b c p q = record {
  sets = p.sets ∙ q.sets;
  replies = p.replies ∙ q.replies;
  decks = λ count. p.decks count ∙ q.decks count;
  statuses = λ target. p.statuses target ∙ q.statuses target;
  floors = p.floors ∙ q.floors;
}

pub exactly : (t : Tables) (rows : Rows) → AreRead t rows → AreLike t rows
exactly t rows read = record { found = rows; read = read; alike = alike_self rows }
