-- How a run with a day of space management ends: each status and its cause.
use Rattle.std.specs.Prelude.{◌≡◌, ◌⊎◌, ℕ, List, Err}
use Rattle.sms_base.specs.Observed.{Observed, IsUnwritten, WasRead, WasAnswered, HasReadFault, HasWriteFault, IsTooLong}
use Rattle.sms_base.specs.Observed.{IsOutOfMemory}
use Rattle.sms_script.specs.declared.script_err.ScriptErr.{ScriptErr}
use Rattle.desk_calls.specs.Headline.{Keeping}
use Rattle.desk_common.specs.Limits.{most_input_bytes}
use Rattle.desk_calls.specs.declared.status.RunStatus.{RunStatus}
use Rattle.desk_calls.specs.declared.status.RunStatus.TheVariants.{Done, BadWords, ReadFault, WriteFault, Script}
use Rattle.desk_calls.specs.declared.status.RunStatus.TheVariants.{TooLong, NoMemory}
use Rattle.manage_calls.specs.Reserved.{managed_script_of}
use Rattle.manage_calls.specs.ManagedRun.{IsAnsweredAndManaged, WasManageBegun}

-- the bytes that were read have this fault as a script that a day may follow, and nothing was run
pub record IsRefused (old new : Observed) (err : ScriptErr) : Type 0 where
  pub bytes : List ℕ
  pub read : WasRead most_input_bytes old new bytes
  pub fault : managed_script_of bytes ≡ Err err
  pub unwritten : IsUnwritten old new

-- the script that was read was answered, and the day may have been begun
pub record WasReadAndManaged (day : ℕ) (old new : Observed) (before after : Keeping) : Type 0 where
  pub bytes : List ℕ
  pub read : WasRead most_input_bytes old new bytes
  pub begun : WasManageBegun day before after bytes

-- memory was wanting; the keeper is as it was, or the script was answered
pub record IsManageWanting (day : ℕ) (old new : Observed) (before after : Keeping) : Type 0 where
  pub wanting : IsOutOfMemory most_input_bytes old new
  pub kept : (after ≡ before) ⊎ WasReadAndManaged day old new before after

-- what each status says of what was observed before and after, and of the keeper, where the words name a day
abbrev pub ManageEnds : ℕ → Observed → Observed → Keeping → Keeping → RunStatus → Type 0
ManageEnds day old new before after Done = WasAnswered most_input_bytes (IsAnsweredAndManaged day before after) old new
ManageEnds day old new before after BadWords = ⊥
ManageEnds day old new before after ReadFault = HasReadFault most_input_bytes old new
ManageEnds day old new before after WriteFault =
    HasWriteFault most_input_bytes (IsAnsweredAndManaged day before after) old new
ManageEnds day old new before after (Script err) = IsRefused old new err
ManageEnds day old new before after TooLong = IsTooLong most_input_bytes old new
ManageEnds day old new before after NoMemory = IsManageWanting day old new before after
