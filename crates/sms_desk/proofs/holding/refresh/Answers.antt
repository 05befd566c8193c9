use Rattle.std.proofs.Common.{◌≡◌, true, rules}
use Rattle.sms_desk.specs.Holding.{holds}
use Rattle.sms_desk.proofs.HoldLemmas.{held-current}
use Rattle.sms_desk.proofs.holding.refresh.Goals as goal

pub returns-else-not-holds-clause-current : goal.returns-else-not-holds-clause-current
returns-else-not-holds-clause-current g c holding =
    let is : holds c.args.held.now c.in-Some.count ≡ true = search rules in
    held-current c.args.core.now.opening c.args.core.now.journal c.args.held.now c.in-Some.count c.in-Some.config.now is holding c.in-Some.ensures.now
