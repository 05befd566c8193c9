-- What a reading of the tables answers.
use Rattle.std.specs.Prelude.{◌≡◌, ◌++◌, ◌∷◌, [], ℕ, List, Option, Some, Result, Ok, Err, map, IsSomeAnd}
use Rattle.desk_common.specs.Causes.{counted}
use Rattle.sqlite.specs.Effect.{Database}
use Rattle.sqlite.specs.Order.{Row}
use Rattle.sms_keeper.specs.Loading.{IsDamaged}
use Rattle.sms_keeper.specs.declared.load_err.LoadErr.{LoadErr}
use Rattle.sms_keeper.specs.declared.load_err.LoadErr.TheVariants as answers
use Rattle.sms_keeper.specs.declared.rows.Rows.{Rows}
use Rattle.sms_keeper.specs.declared.table.Table.{Table}
use Rattle.keeper_statements.specs.Order.{deck_columns, five_columns, three_columns, two_columns}
use Rattle.keeper_statements.specs.Presence.{present_in}
use Rattle.keeper_statements.specs.Steps.{HasMade}
use Rattle.keeper_statements.specs.Tables.{Tables}
use Rattle.sms_sqlite.specs.Damage.{damage_in, first_unread}
use Rattle.sms_sqlite.specs.Values.{each_in, rows_of}
use Rattle.sms_sqlite.specs.declared.shown_rows.ShownRows.{ShownRows}
use Rattle.sms_sqlite.specs.declared.load_fault.LoadFault.{LoadFault}
use Rattle.sms_sqlite.specs.declared.load_fault.LoadFault.TheVariants.{Refused, Damaged, NoMemory}

-- the value that was read stands behind the others
abbrev pub IsPushed : {B : Type 0} → Option B → List B → List B → Type 0
IsPushed found old new = IsSomeAnd found (λ x. new ≡ old ++ x ∷ [])

-- what the rows of a table stand for, or the first that stands for nothing
abbrev pub Reads : {B : Type 0} → Table → (Row → Option B) → List Row → Result (List B) LoadFault → Type 0
Reads table read rows (Ok values) = each_in read rows ≡ Some values
Reads table read rows (Err (Refused error)) = Unit {0}
Reads table read rows (Err (Damaged at place)) = (at ≡ table) × (first_unread read rows ≡ Some place)
Reads table read rows (Err NoMemory) = Unit {0}

-- what the tables stand for, or the first row that stands for nothing
abbrev pub ReadsAll : Tables → Result Rows LoadFault → Type 0
ReadsAll t (Ok rows) = rows_of t ≡ Some rows
ReadsAll t (Err (Refused error)) = Unit {0}
ReadsAll t (Err (Damaged table place)) = damage_in t ≡ Some (table, place)
ReadsAll t (Err NoMemory) = Unit {0}

-- what a loading of such tables answers
abbrev pub AnswersAll : Tables → Result Rows LoadErr → Type 0
AnswersAll t (Ok rows) = rows_of t ≡ Some rows
AnswersAll t (Err answers.Failed) = Unit {0}
AnswersAll t (Err (answers.Damaged table place)) = damage_in t ≡ Some (table, place)
AnswersAll t (Err answers.NoMemory) = Unit {0}

-- the columns of each table's rows were shown
pub record AreShown (t : Tables) (found : ShownRows) : Type 0 where
  pub sets : found.sets.items ≡ map two_columns t.sets
  pub replies : found.replies.items ≡ map five_columns t.replies
  pub decks : found.decks.items ≡ map deck_columns t.decks
  pub statuses : found.statuses.items ≡ map three_columns t.statuses
  pub floors : found.floors.items ≡ map two_columns t.floors

-- a refusal that names a row names the damage
abbrev pub NamesFault : Option Rows → Option (Table × ℕ) → LoadFault → Type 0
NamesFault told damage (Refused error) = Unit {0}
NamesFault told damage (Damaged table place) = IsDamaged told damage table place
NamesFault told damage NoMemory = Unit {0}

-- each of the five tables that wasn't there was made, and nothing else changed
abbrev pub IsMadeReady : Database → Database → Type 0
IsMadeReady old new = HasMade (present_in old.schema.tables) old new

-- the faults after a loading: a failure is one more, and no other answer is any
abbrev pub faults_after : {T : Type 0} → ℕ → Result T LoadErr → ℕ
faults_after before (Ok rows) = before
faults_after before (Err answers.Failed) = counted before
faults_after before (Err (answers.Damaged table row)) = before
faults_after before (Err answers.NoMemory) = before
