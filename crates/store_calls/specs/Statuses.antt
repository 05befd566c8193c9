-- The exit statuses of calls over a store.
use Rattle.std.specs.Prelude.{ℕ, Bool, true}
use Rattle.desk_calls.specs.ExitStatus.{exit_status_of}
pub use Rattle.desk_calls.specs.RunFault.{leaves_sink}
use Rattle.sms_open.specs.declared.open_err.OpenErr.TheVariants as refusals
use Rattle.store_calls.specs.declared.status.StoreStatus.{StoreStatus}
use Rattle.store_calls.specs.declared.status.StoreStatus.TheVariants.{Ran, Unopened}

-- the number that each ending is told by
abbrev pub store_status_of : StoreStatus → ℕ
store_status_of (Ran status) = exit_status_of status
store_status_of (Unopened refusals.NoMemory) = 7
store_status_of (Unopened refusals.Failed) = 10
store_status_of (Unopened (refusals.Damaged table row)) = 11
store_status_of (Unopened (refusals.Unsound number)) = 11

-- the statuses with which nothing is written
abbrev pub leaves_sink_of : StoreStatus → Bool
leaves_sink_of (Ran status) = leaves_sink status
leaves_sink_of (Unopened err) = true
