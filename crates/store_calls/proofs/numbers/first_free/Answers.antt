use Rattle.std.proofs.Common.{ap, arith}
use Rattle.store_calls.proofs.NumberLemmas.{free_case}
use Rattle.store_calls.proofs.numbers.first_free.Goals as goal

pub returns : goal.returns
returns c =
    free_case c.behind_kept.result c.args.job.now c.args.rows.now c.at_least_one.result c.at_least_one.ensures.one (omega (arith, rw c.as_slice.ensures at c.highest_floor-floor.ensures, c.at_least_one.ensures.number)) c.behind_kept.ensures.least
    (rw c.as_slice-2.ensures at c.behind_kept.ensures.unkept)
