-- What contracts see of a core, and what a step does to it.
use Rattle.std.specs.Prelude.{ℕ, Bool, true, false, ◌≡◌, ◌≤◌, ◌↔◌, ◌||◌, nat_lt, List, [], ◌∷◌, ◌++◌, Option, IfSome}
use Rattle.std.specs.Prelude.{◌+◌, is_some, if◌then◌else◌, length}
use Rattle.desk_common.specs.Causes.{Rose}
use Rattle.sms_construct.specs.declared.entry.Answer.{Answer}
use Rattle.sms_construct.specs.declared.entry.Entry.{Entry}
use Rattle.sms_construct.specs.declared.reply.Reply.TheVariants as replies
use Rattle.sms_construct.specs.declared.request.Request.{Request}
use Rattle.sms_keeper.specs.declared.rows.Rows.{Rows}
use Rattle.sms_keeper.specs.Told.{Stays}
use Rattle.desk_law.specs.State.{DeskState, Opening}
use Rattle.desk_law.specs.Kept.{floor_of, is_entered, kept_for}
use Rattle.desk_law.specs.Step.{IsStep}
use Rattle.desk_law.specs.History.{Reaches}
use Rattle.desk_law.specs.Records.{IsTables}
use Rattle.desk_records.specs.Full.{is_full_for}

-- what the desk began with, all its entries, its keeper, and the keeper's count of faults as the core found it
pub record CoreView (P : Type 0) : Type 0 where
  pub opening : Opening
  pub journal : List Entry
  pub keeper : P
  pub mark : ℕ

-- the place of its last entry; where there is none, the place behind which the first will stand
abbrev pub last_place : {P : Type 0} → CoreView P → ℕ
last_place core = core.opening.base + length core.journal

-- the entry is a lawful step after these entries
pub record IsNext (o : Opening) (before : List Entry) (e : Entry) : Type 0 where
  pub state : DeskState
  pub after : DeskState
  pub reaches : Reaches o before state
  pub step : IsStep o before state e after

-- the entry that an answer makes, if any
abbrev pub entry_of : Request → Answer → List Entry
entry_of request answer = if is_entered answer.reply then record { request = request; answer = answer } ∷ [] else []

-- no commit is made for the request: the journal has no place for its op, or its number is below the floor or has a
-- kept reply
abbrev pub needs_no_commit : Opening → List Entry → Request → Bool
needs_no_commit o h request =
    is_full_for h request.op || (nat_lt request.number (floor_of o h request.job) || is_some
    (kept_for o h request.job request.number))

-- the answer's entry, which is lawful there, joins the journal; an answer without an entry has no place, and the tables
-- stay
pub record Enters (o : Opening) (old new : List Entry) (told told' : Option Rows) (count count' : ℕ) (request : Request)
    (answer : Answer) : Type 0 where
  pub journal_is : new ≡ old ++ entry_of request answer
  pub lawful : is_entered answer.reply ≡ true → IsNext o old (record { request = request; answer = answer })
  pub no_place : is_entered answer.reply ≡ false → (answer.place ≡ 0) × (answer.first ≡ 0)
  pub no_change : is_entered answer.reply ≡ false → Stays told told'
  -- the journal is full exactly where it has no place for the op
  pub full : answer.reply ≡ replies.JournalFull ↔ is_full_for old request.op ≡ true
  -- a fault of the keeper is told where its count rose, and nowhere else
  pub cause : answer.reply ≡ replies.KeeperFault → Rose count count'
  pub stands : (answer.reply ≡ replies.KeeperFault → ⊥) → count' ≡ count
  pub rises : count ≤ count'

-- tables that are told after were told before
abbrev pub WasTold : Option Rows → Option Rows → Type 0
WasTold told told' = IfSome told' (λ _. is_some told ≡ true)

-- tables that are told are those of the history
abbrev pub HasTables : Opening → List Entry → Option Rows → Type 0
HasTables o h told = IfSome told (λ rows. (s : DeskState) → Reaches o h s → IsTables o h s rows)
