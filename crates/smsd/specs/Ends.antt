-- How a task of the program ends: its exit status and the cause (docs/manual/smsd.md, "Exit statuses").
use Rattle.std.specs.Prelude.{◌≡◌, ◌⊎◌, ◌&&◌, ℕ, Bool, true, false, not, if◌then◌else◌}
use Rattle.sqlite.specs.declared.error.Error.{Error}
use Rattle.sqlite.specs.declared.error.Error.TheVariants.{SqliteFailure}
use Rattle.sqlite.specs.declared.error.ErrorCode.{ErrorCode}
use Rattle.sqlite.specs.declared.error.ErrorCode.TheVariants.{OutOfMemory}
use Rattle.desk_calls.specs.declared.status.RunStatus.{RunStatus}
use Rattle.desk_calls.specs.declared.status.RunStatus.TheVariants.{Done}
use Rattle.store_calls.specs.Statuses.{store_status_of}
use Rattle.store_calls.specs.declared.status.StoreStatus.{StoreStatus}
use Rattle.store_calls.specs.declared.status.StoreStatus.TheVariants.{Ran, Unopened}
use Rattle.smsd_words.specs.declared.task.Task.{Task}
use Rattle.smsd_words.specs.declared.task.Task.TheVariants as tasks
use Rattle.smsd.specs.Served.{IsPortEnd}

-- the exit status where SQLite can't open the file of a store: 7 where memory was wanting, else 9
abbrev pub failure_status_of : ErrorCode → ℕ
failure_status_of OutOfMemory = 7
failure_status_of _ = 9

-- the same for whatever error
abbrev pub unopened_status_of : Error → ℕ
unopened_status_of (SqliteFailure code) = failure_status_of code
unopened_status_of _ = 9

-- there is no such file, or it can't be opened for some error
abbrev pub IsUnopened : ℕ → Type 0
IsUnopened code = (code ≡ 9) ⊎ ((error : Error) × (code ≡ unopened_status_of error))

-- the number is that of how a call over a store ended
abbrev pub IsOfCall : ℕ → Type 0
IsOfCall code = (status : StoreStatus) × (code ≡ store_status_of status)

-- the store wasn't opened, or it is that of the call over it
abbrev pub IsStoreEnd : ℕ → Type 0
IsStoreEnd code = IsUnopened code ⊎ IsOfCall code

-- the input wasn't opened, or the task that reads it ended so
abbrev pub IsReadEnd : (ℕ → Type 0) → ℕ → Type 0
IsReadEnd ends code = (code ≡ 3) ⊎ ends code

-- all was written
abbrev pub is_whole : RunStatus → Bool
is_whole Done = true
is_whole _ = false

abbrev pub is_done : StoreStatus → Bool
is_done (Ran status) = is_whole status
is_done (Unopened err) = false

-- all was written, and what was written isn't good
abbrev pub is_bad : StoreStatus → Bool → Bool
is_bad status good = is_done status && not good

-- the exit status where what is written is judged: 1 where it isn't good
abbrev pub judged_status_of : StoreStatus → Bool → ℕ
judged_status_of status good = if is_bad status good then 1 else store_status_of status

-- the number is that of how a call ended whose text is judged
abbrev pub IsOfJudged : ℕ → Type 0
IsOfJudged code = (status : StoreStatus) × (good : Bool) × (code ≡ judged_status_of status good)

-- the store wasn't opened, or it is that of the call over it
abbrev pub IsJudgedEnd : ℕ → Type 0
IsJudgedEnd code = IsUnopened code ⊎ IsOfJudged code

-- only a strict script is judged
abbrev pub IsOfScript : Bool → ℕ → Type 0
IsOfScript true code = IsOfJudged code
IsOfScript false code = IsOfCall code

-- the store wasn't opened, or it is that of the script
abbrev pub IsScriptEnd : Bool → ℕ → Type 0
IsScriptEnd strict code = IsUnopened code ⊎ IsOfScript strict code

-- the store wasn't opened, or it is that of serving it
abbrev pub IsServeEnd : ℕ → Type 0
IsServeEnd code = IsUnopened code ⊎ IsPortEnd code

-- how each task may end
abbrev pub IsTaskEnd : Task → ℕ → Type 0
IsTaskEnd (tasks.Run script running) code = IsReadEnd (IsScriptEnd running.strict) code
IsTaskEnd (tasks.List query) code = IsStoreEnd code
IsTaskEnd (tasks.Serve serving) code = IsServeEnd code
IsTaskEnd (tasks.Check deck) code = IsReadEnd IsJudgedEnd code
IsTaskEnd (tasks.Manage day dry) code = IsStoreEnd code
