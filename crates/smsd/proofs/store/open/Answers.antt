use Rattle.std.proofs.Common.{inr}
use Rattle.smsd.proofs.store.open.Goals as goal

-- for the error that was met
pub returns : goal.returns
returns c = inr (c.in-Err.error, c.end_unopened.ensures)
