-- The exit status of the program.
use Rattle.std.specs.Prelude.{ℕ}
use Rattle.desk_calls.specs.declared.status.RunStatus.{RunStatus}
use Rattle.desk_calls.specs.declared.status.RunStatus.TheVariants.{Done, BadWords, ReadFault, WriteFault, Script}
use Rattle.desk_calls.specs.declared.status.RunStatus.TheVariants.{TooLong, NoMemory}

-- the number that each ending of a run is told by
abbrev pub exit_status_of : RunStatus → ℕ
exit_status_of Done = 0
exit_status_of BadWords = 2
exit_status_of ReadFault = 3
exit_status_of WriteFault = 4
exit_status_of (Script err) = 5
exit_status_of TooLong = 6
exit_status_of NoMemory = 7
