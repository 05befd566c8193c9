-- The exit status of the program.
use Rattle.std.specs.Prelude.{ℕ}
use Rattle.tool_calls.specs.declared.status.ToolStatus.{ToolStatus}
use Rattle.tool_calls.specs.declared.status.ToolStatus.TheVariants.{Done, FaultFound, BadWords, ReadFault, WriteFault}
use Rattle.tool_calls.specs.declared.status.ToolStatus.TheVariants.{Script, TooLong, NoMemory}

-- the number that each ending of a call is told by
abbrev pub exit_status_of : ToolStatus → ℕ
exit_status_of Done = 0
exit_status_of FaultFound = 1
exit_status_of BadWords = 2
exit_status_of ReadFault = 3
exit_status_of WriteFault = 4
exit_status_of (Script err) = 5
exit_status_of TooLong = 6
exit_status_of NoMemory = 7
