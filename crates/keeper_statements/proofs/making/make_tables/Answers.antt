use Rattle.std.proofs.Common.{arith}
use Rattle.std.proofs.lemmas.Result.{on_ok_weaker}
use Rattle.sqlite.specs.Held.{state}
use Rattle.sqlite.specs.State.{HasCleanDisk}
use Rattle.keeper_statements.proofs.making.make_tables.Goals as goal

pub returns-clause-made : goal.returns-clause-made
returns-clause-made g c clean inside =
    let first : HasCleanDisk (state g.S.Store c.make_first.new.tx.conn.now) = omega (arith, clean, c.make_last.ensures.survives.clean) in
    let one = c.in_ok-make_first.ensures.made first inside in
    let on = (c.in_ok-make_first.ensures.stays first inside).inside in
    on_ok_weaker c.make_last.result (λ two. record { mid = _; first = one; last = two }) (c.make_last.ensures.made clean on)
