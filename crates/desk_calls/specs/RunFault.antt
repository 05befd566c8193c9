-- How a run ends: each status and its cause.
use Rattle.std.specs.Prelude.{◌≡◌, ◌⊎◌, Bool, true, false, List, ℕ, Err}
use Rattle.std.specs.Io.KnownBytes.{Appends}
use Rattle.desk_common.specs.Causes.{Rose}
use Rattle.desk_common.specs.Fronts.{IsProperPrefix}
use Rattle.desk_common.specs.Limits.{most_input_bytes}
use Rattle.desk_law.specs.Records.{empty_opening}
use Rattle.desk_law.specs.State.{Opening}
use Rattle.sms_base.specs.Observed.{Observed, IsUnwritten, WasRead, WasAnswered, HasReadFault, HasWriteFault, IsTooLong}
use Rattle.sms_base.specs.Observed.{IsOutOfMemory}
use Rattle.sms_script.specs.declared.script_err.ScriptErr.{ScriptErr}
use Rattle.sms_script.specs.Script.{script_of}
use Rattle.desk_words.specs.declared.task.Task.{Task}
use Rattle.desk_words.specs.declared.task.Task.TheVariants as tasks
use Rattle.desk_calls.specs.Headline.{IsAnswered, IsLoadLeft, IsSummed, Keeping, WasBegun}
use Rattle.desk_calls.specs.declared.status.RunStatus.{RunStatus}
use Rattle.desk_calls.specs.declared.status.RunStatus.TheVariants.{Done, BadWords, ReadFault, WriteFault, Script}
use Rattle.desk_calls.specs.declared.status.RunStatus.TheVariants.{TooLong, NoMemory}

-- the bytes that were read have this fault as a script, and nothing was run
pub record IsFaulty (old new : Observed) (err : ScriptErr) : Type 0 where
  pub bytes : List ℕ
  pub read : WasRead most_input_bytes old new bytes
  pub fault : script_of bytes ≡ Err err
  pub unwritten : IsUnwritten old new

-- the script that was read was begun by so many workers
pub record WasReadAndBegun (o : Opening) (workers : ℕ) (old new : Observed) (before after : Keeping) : Type 0 where
  pub bytes : List ℕ
  pub read : WasRead most_input_bytes old new bytes
  pub begun : WasBegun o workers before after bytes

-- memory was wanting; the keeper is as it was, or the script was begun
pub record IsWanting (o : Opening) (workers : ℕ) (old new : Observed) (before after : Keeping) : Type 0 where
  pub wanting : IsOutOfMemory most_input_bytes old new
  pub kept : (after ≡ before) ⊎ WasReadAndBegun o workers old new before after

-- the statuses with which nothing is written
abbrev pub leaves_sink : RunStatus → Bool
leaves_sink Done = false
leaves_sink WriteFault = false
leaves_sink BadWords = true
leaves_sink ReadFault = true
leaves_sink (Script err) = true
leaves_sink TooLong = true
leaves_sink NoMemory = true

-- the statuses with which nothing was run
abbrev pub leaves_keeper : RunStatus → Bool
leaves_keeper Done = false
leaves_keeper WriteFault = false
leaves_keeper BadWords = true
leaves_keeper ReadFault = true
leaves_keeper (Script err) = true
leaves_keeper TooLong = true
leaves_keeper NoMemory = false

-- what each status of a run behind an opening says of what was observed before and after, and of the keeper
abbrev pub RunEnds : Opening → Bool → ℕ → Observed → Observed → Keeping → Keeping → RunStatus → Type 0
RunEnds o volumes workers old new before after Done =
    WasAnswered most_input_bytes (IsAnswered o volumes workers before after) old new
RunEnds o volumes workers old new before after BadWords = ⊥
RunEnds o volumes workers old new before after ReadFault = HasReadFault most_input_bytes old new
RunEnds o volumes workers old new before after WriteFault =
    HasWriteFault most_input_bytes (IsAnswered o volumes workers before after) old new
RunEnds o volumes workers old new before after (Script err) = IsFaulty old new err
RunEnds o volumes workers old new before after TooLong = IsTooLong most_input_bytes old new
RunEnds o volumes workers old new before after NoMemory = IsWanting o workers old new before after

-- the sink took the whole summary
pub record WasSummed (seed count : ℕ) (old new : Observed) (before after : Keeping) : Type 0 where
  pub text : List ℕ
  pub summed : IsSummed seed count before after text
  pub written : Appends old.taken new.taken text
  pub write_faults : new.write_faults ≡ old.write_faults

-- the sink took a proper front of the summary before its count of faults rose
pub record WasCut (seed count : ℕ) (old new : Observed) (before after : Keeping) : Type 0 where
  pub text : List ℕ
  pub front : List ℕ
  pub summed : IsSummed seed count before after text
  pub proper : IsProperPrefix front text
  pub written : Appends old.taken new.taken front
  pub rose : Rose old.write_faults new.write_faults

-- what each status of a load says
abbrev pub LoadEnds : ℕ → ℕ → Observed → Observed → Keeping → Keeping → RunStatus → Type 0
LoadEnds seed count old new before after Done = WasSummed seed count old new before after
LoadEnds seed count old new before after BadWords = ⊥
LoadEnds seed count old new before after ReadFault = ⊥
LoadEnds seed count old new before after WriteFault = WasCut seed count old new before after
LoadEnds seed count old new before after (Script err) = ⊥
LoadEnds seed count old new before after TooLong = ⊥
LoadEnds seed count old new before after NoMemory = IsLoadLeft seed count before after

-- what each status of a task on a new desk says
abbrev pub Ends : Task → Observed → Observed → Keeping → Keeping → RunStatus → Type 0
Ends (tasks.Run volumes workers) old new before after status =
    RunEnds empty_opening volumes workers old new before after status
Ends (tasks.Generate seed count) old new before after status = LoadEnds seed count old new before after status
