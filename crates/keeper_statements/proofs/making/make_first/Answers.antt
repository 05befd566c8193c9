use Rattle.std.proofs.Common.{arith}
use Rattle.std.proofs.lemmas.Result.{on_ok_weaker}
use Rattle.sqlite.specs.Held.{state}
use Rattle.sqlite.specs.State.{HasCleanDisk}
use Rattle.keeper_statements.proofs.CreateLemmas.{made_first}
use Rattle.keeper_statements.proofs.making.make_first.Goals as goal

pub returns-clause-made : goal.returns-clause-made
returns-clause-made g c clean inside =
    let second : HasCleanDisk (state g.S.Store c.run_unless-2.new.tx.conn.now) = omega (arith, clean, c.run_unless-3.ensures.survives.clean) in
    let first : HasCleanDisk (state g.S.Store c.run_unless.new.tx.conn.now) = omega (arith, second, c.run_unless-2.ensures.survives.clean) in
    let one = c.in_ok-run_unless.ensures.runs first inside in
    let on_1 = (c.in_ok-run_unless.ensures.stays first inside).inside in
    let two = c.in_ok-run_unless-2.ensures.runs second on_1 in
    let on_2 = (c.in_ok-run_unless-2.ensures.stays second on_1).inside in
    on_ok_weaker c.run_unless-3.result (made_first c.args.there _ _ _ _ one two) (c.run_unless-3.ensures.runs clean on_2)
