-- How a call of the translator ends: each status and its cause (docs/manual/tool.md).
use Rattle.std.specs.Prelude.{◌≡◌, ◌⊎◌, Bool, true, false, List, ℕ}
use Rattle.desk_common.specs.Causes.{Rose}
use Rattle.sms_base.specs.Observed.{Observed, IsUnwritten, WasRead, WasAnswered, HasReadFault, HasWriteFault, IsTooLong}
use Rattle.sms_base.specs.Observed.{IsOutOfMemory}
use Rattle.tool_calls.specs.Limits.{most_bytes}
use Rattle.sms_script.specs.declared.script_err.ScriptErr.{ScriptErr}
use Rattle.tool_calls.specs.ToolText.{IsAnswer, IsScriptFault}
use Rattle.tool_calls.specs.declared.status.ToolStatus.{ToolStatus}
use Rattle.tool_calls.specs.declared.status.ToolStatus.TheVariants.{Done, FaultFound, BadWords, ReadFault, WriteFault}
use Rattle.tool_calls.specs.declared.status.ToolStatus.TheVariants.{Script, TooLong, NoMemory}
use Rattle.tool_words.specs.Asking.{AreRefused, AreShown, AskFor}
use Rattle.tool_words.specs.declared.task.Task.{Task}

-- the text answers these bytes, whatever its status
abbrev pub HasAnswer : Task → List ℕ → List ℕ → Type 0
HasAnswer task bytes text = (status : ToolStatus) × IsAnswer bytes task status text

-- the bytes that were read have this fault as a script to be simulated, and nothing was written
pub record IsFaulty (task : Task) (old new : Observed) (err : ScriptErr) : Type 0 where
  pub bytes : List ℕ
  pub read : WasRead (most_bytes task) old new bytes
  pub fault : IsScriptFault bytes task err
  pub unwritten : IsUnwritten old new

-- the statuses with which nothing is written
abbrev pub leaves_sink : ToolStatus → Bool
leaves_sink Done = false
leaves_sink FaultFound = false
leaves_sink WriteFault = false
leaves_sink status = true

-- what each status of a task says of what was observed before and after
abbrev pub Ends : Task → Observed → Observed → ToolStatus → Type 0
Ends task old new Done = WasAnswered (most_bytes task) (λ bytes text. IsAnswer bytes task Done text) old new
Ends task old new FaultFound = WasAnswered (most_bytes task) (λ bytes text. IsAnswer bytes task FaultFound text) old new
Ends task old new BadWords = ⊥
Ends task old new ReadFault = HasReadFault (most_bytes task) old new
Ends task old new WriteFault = HasWriteFault (most_bytes task) (HasAnswer task) old new
Ends task old new (Script err) = IsFaulty task old new err
Ends task old new TooLong = IsTooLong (most_bytes task) old new
Ends task old new NoMemory = IsOutOfMemory (most_bytes task) old new

-- the source was not read
pub record IsUnread (old new : Observed) : Type 0 where
  pub left : new.left ≡ old.left
  pub read_faults : new.read_faults ≡ old.read_faults

-- the statuses that the call ends with where it shows a text of help or of the version; what the sink took then is not
-- told
abbrev pub ends_shown : ToolStatus → Bool
ends_shown Done = true
ends_shown WriteFault = true
ends_shown NoMemory = true
ends_shown status = false

-- the words ask for a task, and this is its end
pub record DoesTask (words : List (List ℕ)) (old new : Observed) (status : ToolStatus) : Type 0 where
  pub task : Task
  pub asked : AskFor words task
  pub ends : Ends task old new status

-- the words are refused, and nothing was read
pub record RefusesWords (words : List (List ℕ)) (old new : Observed) (status : ToolStatus) : Type 0 where
  pub refused : AreRefused words
  pub status_is : status ≡ BadWords
  pub unread : IsUnread old new

-- the words ask for a text of help or of the version, and nothing was read; a write fault has its cause
pub record ShowsText (words : List (List ℕ)) (old new : Observed) (status : ToolStatus) : Type 0 where
  pub shown : AreShown words
  pub status_is : ends_shown status ≡ true
  pub cause : status ≡ WriteFault → Rose old.write_faults new.write_faults
  pub unread : IsUnread old new

-- memory was wanting for the words, and nothing was read
pub record WantsMemory (old new : Observed) (status : ToolStatus) : Type 0 where
  pub status_is : status ≡ NoMemory
  pub unread : IsUnread old new

-- what a call with these words comes to
abbrev pub EndsFor : List (List ℕ) → Observed → Observed → ToolStatus → Type 0
EndsFor words old new status = (DoesTask words old new status ⊎ RefusesWords words old new status) ⊎
    (ShowsText words old new status ⊎ WantsMemory old new status)
