-- The status is the run's; where memory for the file is wanting, it is that.
use Rattle.std.proofs.Common.{inr}
use Rattle.db_calls.specs.declared.status.DbStatus.TheVariants.{Ran}
use Rattle.desk_calls.specs.declared.status.RunStatus.TheVariants.{NoMemory}
use Rattle.smsctl.proofs.database.run.Goals as goal

pub returns-in-Ok : goal.returns-in-Ok
returns-in-Ok c = inr (c.in-Ok.status, c.end.ensures)

pub returns-in-Err-SqliteFailure-OutOfMemory : goal.returns-in-Err-SqliteFailure-OutOfMemory
returns-in-Err-SqliteFailure-OutOfMemory c = inr (Ran NoMemory, c.end-in-Err-SqliteFailure-OutOfMemory.ensures)
