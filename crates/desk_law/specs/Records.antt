-- The tables of a history (docs/manual/records.md).
use Rattle.std.specs.Prelude.{ℕ, ◌≡◌, ◌==◌, nat_lt, Bool, List, [], ◌∷◌, ◌++◌, filter, find, Option, None, Some}
use Rattle.std.specs.Prelude.{if◌then◌else◌}
use Rattle.sms_construct.specs.declared.entry.Entry.{Entry}
use Rattle.sms_construct.specs.declared.reply.Reply.{Reply}
use Rattle.sms_construct.specs.declared.target.Target.{Target}
use Rattle.sms_keeper.specs.declared.deck_row.DeckRow.{DeckRow}
use Rattle.sms_keeper.specs.declared.floor.Floor.{Floor}
use Rattle.sms_keeper.specs.declared.kept_row.KeptRow.{KeptRow}
use Rattle.sms_keeper.specs.declared.rows.Rows.{Rows}
use Rattle.sms_keeper.specs.Suits.{deck_of}
use Rattle.sms_keeper.specs.Tables.{deck_rows, is_deck, is_floor_of, is_named, is_reply_of, is_status_of, no_rows}
use Rattle.desk_law.specs.State.{DeskState, Opening}
use Rattle.desk_law.specs.Changes.{Consequence, NoChange, Change, Activation, FloorOf, Fault, consequence_of}
use Rattle.desk_law.specs.Kept.{all_floors, all_rows, greatest_floor}

-- the opening of a new desk
abbrev pub empty_opening : Opening
empty_opening = record { rows = no_rows; config = None; base = 0 }

-- what is found, as a list
abbrev pub rows_found : Option KeptRow → List KeptRow
rows_found None = []
rows_found (Some row) = row ∷ []

-- the row that is kept for a number: none below the floor
abbrev pub kept_rows : Bool → Option KeptRow → List KeptRow
kept_rows below found = if below then [] else rows_found found

-- the row of a floor, where it isn't 0
abbrev pub floor_rows : List ℕ → ℕ → List Floor
floor_rows job floor = if floor == 0 then [] else record { job = job; floor = floor } ∷ []

-- replies and floors are those that are kept, each once
pub record AreKept (floors : List Floor) (rows : List KeptRow) (kept : List KeptRow)
    (standing : List Floor) : Type 0 where
  pub replies_are : (job : List ℕ) (number : ℕ) →
      filter (is_reply_of job number) kept ≡ kept_rows (nat_lt number (greatest_floor job floors))
      (find (is_reply_of job number) rows)
  pub floors_are : (job : List ℕ) → filter (is_floor_of job) standing ≡ floor_rows job (greatest_floor job floors)

-- the deck that became active, if any
abbrev pub decks_activated : Consequence → Option (List ℕ) → List DeckRow
decks_activated NoChange deck = []
decks_activated Change deck = []
decks_activated (Activation count) deck = deck_rows count deck
decks_activated (FloorOf job floor) deck = []
decks_activated Fault deck = []

-- the deck of a reply that activates one
abbrev pub decks_told : Reply → Option (List ℕ) → List DeckRow
decks_told reply deck = decks_activated (consequence_of reply) deck

-- an entry that is no repeat has its own deck
abbrev pub decks_of_entry : Entry → List DeckRow
decks_of_entry e = if e.answer.first == e.answer.place then decks_told e.answer.reply (deck_of e.request.op) else []

-- the decks that entries activated
abbrev pub decks_of : List Entry → List DeckRow
decks_of [] = []
decks_of (e ∷ es) = decks_of_entry e ++ decks_of es

-- the rows are the tables of the history, which left the state s: under each key the rows that are due, in any order of
-- the keys
pub record IsTables (o : Opening) (h : List Entry) (s : DeskState) (rows : Rows) : Type 0 where
  pub sets_are : (dsn : List ℕ) → filter (is_named dsn) rows.sets ≡ filter (is_named dsn) s.sets
  pub kept_are : AreKept (all_floors o h) (all_rows o h) rows.replies rows.floors
  pub decks_are : (count : ℕ) → filter (is_deck count) rows.decks ≡ filter (is_deck count) (o.rows.decks ++ decks_of h)
  pub statuses_are : (target : Target) →
      filter (is_status_of target) rows.statuses ≡ filter (is_status_of target) s.statuses
