-- What a core keeps together.
use Rattle.std.specs.Prelude.{ℕ, ◌≡◌, ◌<◌, List, Option, count_by}
use Rattle.sms_construct.specs.declared.entry.Answer.{Answer}
use Rattle.sms_construct.specs.declared.entry.Entry.{Entry}
use Rattle.sms_construct.specs.declared.reply.Reply.TheVariants.{KeeperFault}
use Rattle.sms_construct.specs.declared.request.Request.{Request}
use Rattle.sms_keeper.specs.declared.rows.Rows.{Rows}
use Rattle.sms_keeper.specs.Log.{LogView}
use Rattle.desk_law.specs.State.{DeskState, Opening}
use Rattle.desk_law.specs.Step.{activates}
use Rattle.desk_records.specs.Logged.{IsUntouched}
use Rattle.desk_records.specs.Tied.{IsEntered, IsTied}
use Rattle.desk_state.specs.declared.running.Running.{Running}
use Rattle.desk_state.specs.Standing.{IsRunning}

-- the journal left a state, for which the running one stands, and to which log and tables are tied
pub record IsHeld (o : Opening) (h : List Entry) (running : Running) (log : LogView) (told : Option Rows)
    (mark count : ℕ) : Type 0 where
  pub state : DeskState
  pub tied : IsTied o h state log told mark count
  pub stands : IsRunning state running

-- all is held, the place before the first entry is the opening's, and so many entries ask for an activation
pub record IsCore (o : Opening) (base asked : ℕ) (h : List Entry) (running : Running) (log : LogView)
    (told : Option Rows) (mark count : ℕ) : Type 0 where
  pub held : IsHeld o h running log told mark count
  pub base_is : base ≡ o.base
  pub asked_is : asked ≡ count_by activates h

-- the running state stands for what the other stood for
abbrev pub SameRunning : Running → Running → Type 0
SameRunning old new = (s : DeskState) → IsRunning s old → IsRunning s new

-- the entry is a lawful step from the state s, and all is held behind it
pub record HasEntered (o : Opening) (h : List Entry) (s : DeskState) (e : Entry) (running : Running) (log : LogView)
    (told : Option Rows) (mark count : ℕ) : Type 0 where
  pub after : DeskState
  pub entered : IsEntered o h s e after log told mark count
  pub stands : IsRunning after running

-- the log has room for a reply and for a floor
pub record HasLogRoom (log : LogView) : Type 0 where
  pub reply : 0 < log.reply_room
  pub floor : 0 < log.floor_room

-- the entry is the request's, the answer is the entry's, and the keeper's count stands but where that is a fault
pub record IsMadeFor (request : Request) (entry : Entry) (answer : Answer) (count count' : ℕ) : Type 0 where
  pub request_is : entry.request ≡ request
  pub answer_is : answer ≡ entry.answer
  pub stands : (entry.answer.reply ≡ KeeperFault → ⊥) → count' ≡ count

-- all stands as it was
pub record IsUnmade (running running' : Running) (log log' : LogView) (told told' : Option Rows) (count count' : ℕ) :
    Type 0 where
  pub running_is : SameRunning running running'
  pub records_are : IsUntouched told told' log log'
  pub spared : count' ≡ count
