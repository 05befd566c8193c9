-- The exit status of serving the desk.
use Rattle.std.specs.Prelude.{ℕ}
use Rattle.serve_calls.specs.declared.status.ServeStatus.{ServeStatus}
use Rattle.serve_calls.specs.declared.status.ServeStatus.TheVariants.{Done, BadWords, WriteFault, NoMemory, AcceptFault}

-- the number that each ending of serving is told by
abbrev pub serve_status_of : ServeStatus → ℕ
serve_status_of Done = 0
serve_status_of BadWords = 2
serve_status_of WriteFault = 4
serve_status_of NoMemory = 7
serve_status_of AcceptFault = 8
