use Rattle.manage_calls.proofs.AloneLemmas.{alone}
use Rattle.manage_calls.proofs.reserved.reserved_line.Goals as goal

-- a first line is a line alone
pub kind_of_line-requires-clause-one : goal.kind_of_line-requires-clause-one
kind_of_line-requires-clause-one c = alone c.loop-rest.rest.now c.first_line.result.0.now _ c.first_line.ensures.lines
