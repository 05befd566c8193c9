-- What an activation of a deck would be answered on a store (docs/manual/smsd.md, "Check of a deck").
use Rattle.std.specs.Prelude.{◌≡◌, ◌≤◌, ℕ, Bool, true, false, List, [], ◌++◌, codes, find, flat_map, None, Option}
use Rattle.sms_base.specs.Observed.{Observed, HasReadFault, HasWriteFault, IsOutOfMemory, IsTooLong, WasAnswered}
use Rattle.desk_common.specs.Limits.{most_input_bytes}
use Rattle.sms_construct.specs.declared.entry.Answer.{Answer}
use Rattle.sms_construct.specs.declared.entry.Entry.{Entry}
use Rattle.sms_construct.specs.declared.reply.Reply.{Reply}
use Rattle.sms_construct.specs.declared.reply.Reply.TheVariants as replies
use Rattle.sms_construct.specs.declared.request.Op.TheVariants as ops
use Rattle.sms_construct.specs.declared.request.Request.{Request}
use Rattle.sms_keeper.specs.Tables.{is_reply_of}
use Rattle.sms_keeper.specs.declared.keeper.Keeper.{Ghosts}
use Rattle.sms_keeper.specs.declared.rows.Rows.{Rows}
use Rattle.sms_keeper.specs.declared.table.Table.{Table}
use Rattle.sms_script.specs.AnswerText.{answer_lines, ended}
use Rattle.deck_changes.specs.DeckChanges.{IsDifference}
use Rattle.desk_law.specs.Kept.{greatest_floor}
use Rattle.desk_law.specs.State.{Opening}
use Rattle.sms_core.specs.Core.{Enters}
use Rattle.desk_calls.specs.declared.status.RunStatus.{RunStatus}
use Rattle.desk_calls.specs.declared.status.RunStatus.TheVariants.{Done, BadWords, ReadFault, WriteFault, Script}
use Rattle.desk_calls.specs.declared.status.RunStatus.TheVariants.{TooLong, NoMemory}
use Rattle.store_calls.specs.Opened.{IsUnopened, WasOpened}
use Rattle.store_calls.specs.declared.status.StoreStatus.{StoreStatus}
use Rattle.store_calls.specs.declared.status.StoreStatus.TheVariants.{Ran, Unopened}

-- the administrator
abbrev pub administrator : List ℕ
administrator = codes "SMSADMIN"

-- from this number on the job has no kept reply, and it has no floor above it
pub record IsFreeFrom (job : List ℕ) (rows : Rows) (number : ℕ) : Type 0 where
  pub least : 1 ≤ number
  pub floor : greatest_floor job rows.floors ≤ number
  pub unkept : (n : ℕ) → number ≤ n → find (is_reply_of job n) rows.replies ≡ None

-- the administrator's request to activate this deck
abbrev pub activation : ℕ → List ℕ → Request
activation number deck = record { job = administrator; number = number; op = ops.Activate deck }

-- the deck would be active
abbrev pub is_activated : Reply → Bool
is_activated (replies.Activated count) = true
is_activated _ = false

-- the lines of an answer
abbrev pub lines_text : Answer → List ℕ
lines_text answer = flat_map ended (answer_lines answer)

-- the text is that of an answer which a desk with this opening gives a fresh request to activate these bytes, where no
-- keeper fails, and of what they change of what is active; they would be active or not
pub record IsChecked (o : Opening) (good : Bool) (deck text : List ℕ) : Type 0 where
  pub number : ℕ
  pub free : IsFreeFrom administrator o.rows number
  pub answer : Answer
  pub journal : List Entry
  pub enters : Enters o [] journal None None 0 0 (activation number deck) answer
  pub good_is : good ≡ is_activated answer.reply
  pub changed : List ℕ
  pub difference : IsDifference o.config deck changed
  pub text_is : text ≡ lines_text answer ++ changed

-- what each status says of a check
abbrev pub CheckEnds : Opening → Bool → Observed → Observed → RunStatus → Type 0
CheckEnds o good old new Done = WasAnswered most_input_bytes (IsChecked o good) old new
CheckEnds o good old new BadWords = ⊥
CheckEnds o good old new ReadFault = HasReadFault most_input_bytes old new
CheckEnds o good old new WriteFault = HasWriteFault most_input_bytes (IsChecked o good) old new
CheckEnds o good old new (Script err) = ⊥
CheckEnds o good old new TooLong = IsTooLong most_input_bytes old new
CheckEnds o good old new NoMemory = IsOutOfMemory most_input_bytes old new

module _ {P : Type 0} (told_by : Ghosts P) (damage : P → Option (Table × ℕ)) where
  -- the bytes of the source were checked on the desk that goes on from the store, which stayed as it was
  pub record WasStoreChecked (good : Bool) (old new : Observed) (before after : P) (status : RunStatus) : Type 0 where
    pub opening : Opening
    pub opened : WasOpened told_by damage before after opening
    pub ends : CheckEnds opening good old new status

  -- what each status says
  abbrev pub StoreCheckEnds : Bool → Observed → Observed → P → P → StoreStatus → Type 0
  StoreCheckEnds good old new before after (Ran status) = WasStoreChecked good old new before after status
  StoreCheckEnds good old new before after (Unopened err) = IsUnopened told_by damage before after err
