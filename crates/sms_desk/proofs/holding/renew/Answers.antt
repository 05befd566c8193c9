use Rattle.std.proofs.Common.{◌≡◌, rules, subst, sym}
use Rattle.sms_desk.specs.Holding.{IsHeldIn, renewed}
use Rattle.sms_desk.proofs.HoldLemmas.{renewed-none, renewed-some}
use Rattle.sms_desk.proofs.holding.renew.Goals as goal

pub returns-in-Some-clause-current : goal.returns-in-Some-clause-current
returns-in-Some-clause-current g c old request answer goes own current s reaches =
    let is : c.renewed.result ≡ renewed c.in-Some.count c.args.own c.args.held.now = search rules in
    subst (IsHeldIn s) (sym is)
    (renewed-some c.args.core.now.opening old c.args.core.now.journal request answer c.args.held.now c.args.own c.in-Some.count c.in-Some.field-0-1.now goes own current c.in-Some.ensures.now s reaches)

pub returns-in-None-clause-current : goal.returns-in-None-clause-current
returns-in-None-clause-current g c old request answer goes own current s reaches =
    renewed-none c.args.core.now.opening old c.args.core.now.journal request answer c.args.held.now goes current c.in-None.ensures.now s reaches
