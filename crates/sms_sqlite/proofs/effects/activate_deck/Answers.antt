use Rattle.std.proofs.Common.{arith}
use Rattle.std.proofs.lemmas.Result.{on_ok_weaker}
use Rattle.sqlite.specs.Held.{state}
use Rattle.sqlite.specs.State.{HasCleanDisk}
use Rattle.sms_sqlite.proofs.LeadLemmas.{deck_behind}
use Rattle.sms_sqlite.proofs.effects.activate_deck.Goals as goal

pub returns-clause-leads : goal.returns-clause-leads
returns-clause-leads g c clean inside rows holds =
    let first : HasCleanDisk (state g.S.Store c.replace_statuses.new.tx.conn.now) = omega (arith, clean, c.add_deck.ensures.survives.clean) in
    let one = c.in_ok-replace_statuses.ensures.leads first inside rows holds in
    let on = (c.in_ok-replace_statuses.ensures.stays first inside).inside in
    on_ok_weaker c.add_deck.result (deck_behind (state g.S.Store c.args.tx.now.conn.now).now (state g.S.Store c.replace_statuses.new.tx.conn.now).now (state g.S.Store c.add_deck.new.tx.conn.now).now rows c.args.statuses.now _ one.found one.rest one.alike) (c.add_deck.ensures.leads clean on one.found one.holds)
